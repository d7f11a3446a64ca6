use Rattle.recovery_laws.proofs.Epochs.{closed_of_runs}
use Rattle.recovery_laws.proofs.closed_ends_are_not_below.Goals as goal

pub returns : goal.returns
returns c = closed_of_runs
