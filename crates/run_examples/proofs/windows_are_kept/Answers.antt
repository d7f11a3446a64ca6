use Rattle.run_examples.proofs.Computed.{windows_are_kept}
use Rattle.run_examples.proofs.windows_are_kept.Goals as goal

pub returns : goal.returns
returns c = windows_are_kept
