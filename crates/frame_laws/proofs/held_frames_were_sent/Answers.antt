use Rattle.frame_laws.proofs.Runs.{held_of_runs}
use Rattle.frame_laws.proofs.held_frames_were_sent.Goals as goal

pub returns : goal.returns
returns c = held_of_runs c.written_is_read_again.ensures c.laws_of_steps.ensures
