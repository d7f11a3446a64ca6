use Rattle.run_examples.proofs.Computed.{both_ends_recover}
use Rattle.run_examples.proofs.both_ends_recover.Goals as goal

pub returns : goal.returns
returns c = both_ends_recover
