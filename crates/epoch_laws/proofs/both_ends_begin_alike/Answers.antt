use Rattle.epoch_laws.proofs.Numbers.{of_runs}
use Rattle.epoch_laws.proofs.both_ends_begin_alike.Goals as goal

pub returns : goal.returns
returns c = of_runs
