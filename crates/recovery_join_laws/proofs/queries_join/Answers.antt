use Rattle.recovery_join_laws.proofs.QueryMoves.{queries_join}
use Rattle.recovery_join_laws.proofs.queries_join.Goals as goal

pub returns : goal.returns
returns c = let below = c.laws_below.ensures in queries_join below.grow below.are below.on below.births
