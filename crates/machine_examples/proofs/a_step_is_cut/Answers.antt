use Rattle.machine_examples.proofs.Cuts.{cut_step_run}
use Rattle.machine_examples.proofs.a_step_is_cut.Goals as goal

pub returns : goal.returns
returns c = cut_step_run
