use Rattle.run_examples.proofs.Computed.{frames_outlive_crashes}
use Rattle.run_examples.proofs.frames_outlive_crashes.Goals as goal

pub returns : goal.returns
returns c = frames_outlive_crashes
