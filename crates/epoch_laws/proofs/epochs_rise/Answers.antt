use Rattle.epoch_laws.proofs.Rising.{of_runs}
use Rattle.epoch_laws.proofs.epochs_rise.Goals as goal

pub returns : goal.returns
returns c = of_runs
