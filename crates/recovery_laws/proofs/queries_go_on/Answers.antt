use Rattle.recovery_laws.proofs.Left.{queries_go_on}
use Rattle.recovery_laws.proofs.queries_go_on.Goals as goal

pub returns : goal.returns
returns c = queries_go_on
