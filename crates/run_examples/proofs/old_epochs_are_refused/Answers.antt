use Rattle.run_examples.proofs.Computed.{old_epochs_are_refused}
use Rattle.run_examples.proofs.old_epochs_are_refused.Goals as goal

pub returns : goal.returns
returns c = old_epochs_are_refused
