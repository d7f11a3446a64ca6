use Rattle.join_laws.proofs.OtherMoves.{ending_moves_join}
use Rattle.join_laws.proofs.ending_moves_join.Goals as goal

pub returns : goal.returns
returns c = let below = c.laws_below.ensures in ending_moves_join below.grow below.epochs
