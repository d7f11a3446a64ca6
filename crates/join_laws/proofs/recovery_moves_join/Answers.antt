use Rattle.join_laws.proofs.OtherMoves.{recovery_moves_join}
use Rattle.join_laws.proofs.recovery_moves_join.Goals as goal

pub returns : goal.returns
returns c = recovery_moves_join c.laws_below.ensures.grow
