use Rattle.join_laws.proofs.GivingMoves.{giving_moves_join}
use Rattle.join_laws.proofs.giving_moves_join.Goals as goal

pub returns : goal.returns
returns c = giving_moves_join c.laws_below.ensures.grow
