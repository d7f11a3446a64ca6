use Rattle.step_laws.proofs.Gone as gone
use Rattle.step_laws.proofs.calls_go_once.Goals as goal

pub returns : goal.returns
returns c = gone.calls_go_once
