use Rattle.machine_examples.proofs.Computed.{both_ends_ask}
use Rattle.machine_examples.proofs.both_ends_ask.Goals as goal

pub returns : goal.returns
returns c = both_ends_ask
