use Rattle.epoch_laws.proofs.Answering.{of_runs}
use Rattle.epoch_laws.proofs.each_epoch_has_one_answer.Goals as goal

pub returns : goal.returns
returns c = of_runs
