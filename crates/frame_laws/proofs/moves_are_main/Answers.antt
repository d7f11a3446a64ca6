use Rattle.frame_laws.proofs.Runs.{moves_of_runs}
use Rattle.frame_laws.proofs.moves_are_main.Goals as goal

pub returns : goal.returns
returns c = moves_of_runs c.written_is_read_again.ensures c.laws_of_steps.ensures
