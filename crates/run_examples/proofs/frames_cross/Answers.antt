use Rattle.run_examples.proofs.Computed.{frames_cross}
use Rattle.run_examples.proofs.frames_cross.Goals as goal

pub returns : goal.returns
returns c = frames_cross
