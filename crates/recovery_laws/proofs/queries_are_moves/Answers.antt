use Rattle.recovery_laws.proofs.Asking.{queries_are_moves}
use Rattle.recovery_laws.proofs.queries_are_moves.Goals as goal

pub returns : goal.returns
returns c = queries_are_moves
