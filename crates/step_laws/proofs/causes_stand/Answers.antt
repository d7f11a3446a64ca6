use Rattle.step_laws.proofs.Steps as steps
use Rattle.step_laws.proofs.causes_stand.Goals as goal

pub returns : goal.returns
returns c = steps.causes_stand
