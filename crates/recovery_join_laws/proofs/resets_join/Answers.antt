use Rattle.recovery_join_laws.proofs.ResetMoves.{resets_join}
use Rattle.recovery_join_laws.proofs.resets_join.Goals as goal

pub returns : goal.returns
returns c = let below = c.laws_below.ensures in resets_join below.codecs below.again below.room below.births below.grow
