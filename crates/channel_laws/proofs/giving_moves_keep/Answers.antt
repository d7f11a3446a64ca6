use Rattle.channel_laws.proofs.GivingMoves.{giving_moves_keep}
use Rattle.channel_laws.proofs.giving_moves_keep.Goals as goal

pub returns : goal.returns
returns c = let below = c.laws_below.ensures in giving_moves_keep below.codecs
