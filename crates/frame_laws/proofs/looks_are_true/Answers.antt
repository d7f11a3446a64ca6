use Rattle.frame_laws.proofs.Runs.{looks_of_runs}
use Rattle.frame_laws.proofs.looks_are_true.Goals as goal

pub returns : goal.returns
returns c = looks_of_runs c.written_is_read_again.ensures c.laws_of_steps.ensures
