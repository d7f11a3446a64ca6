use Rattle.frame_laws.proofs.Runs.{births_of_runs}
use Rattle.frame_laws.proofs.births_are_apart.Goals as goal

pub returns : goal.returns
returns c = births_of_runs c.written_is_read_again.ensures c.laws_of_steps.ensures
