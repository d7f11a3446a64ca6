use Rattle.run_examples.proofs.Computed.{data_are_numbered}
use Rattle.run_examples.proofs.data_are_numbered.Goals as goal

pub returns : goal.returns
returns c = data_are_numbered
