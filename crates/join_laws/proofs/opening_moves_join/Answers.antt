use Rattle.join_laws.proofs.OtherMoves.{opening_moves_join}
use Rattle.join_laws.proofs.opening_moves_join.Goals as goal

pub returns : goal.returns
returns c = let below = c.laws_below.ensures in opening_moves_join below.grow below.births below.coverage
