use Rattle.closing_join_laws.proofs.ClosingMoves.{declines_join}
use Rattle.closing_join_laws.proofs.declines_join.Goals as goal

pub returns : goal.returns
returns c = let below = c.laws_below.ensures in declines_join below.codecs below.again below.room
