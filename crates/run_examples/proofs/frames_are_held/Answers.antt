use Rattle.run_examples.proofs.Computed.{frames_are_held}
use Rattle.run_examples.proofs.frames_are_held.Goals as goal

pub returns : goal.returns
returns c = frames_are_held
