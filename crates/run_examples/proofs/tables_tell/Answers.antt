use Rattle.run_examples.proofs.Computed.{tables_tell}
use Rattle.run_examples.proofs.tables_tell.Goals as goal

pub returns : goal.returns
returns c = tables_tell
