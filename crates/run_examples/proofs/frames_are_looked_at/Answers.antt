use Rattle.run_examples.proofs.Weights.{frames_are_looked_at}
use Rattle.run_examples.proofs.frames_are_looked_at.Goals as goal

pub returns : goal.returns
returns c = frames_are_looked_at
