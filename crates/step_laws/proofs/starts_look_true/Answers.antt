use Rattle.step_laws.proofs.Restarts as restarts
use Rattle.step_laws.proofs.starts_look_true.Goals as goal

pub returns : goal.returns
returns c = restarts.starts_look_true
