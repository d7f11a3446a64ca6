use Rattle.channel_laws.proofs.Beginnings.{beginning_moves_keep}
use Rattle.channel_laws.proofs.beginning_moves_keep.Goals as goal

pub returns : goal.returns
returns c = let below = c.laws_below.ensures in beginning_moves_keep below.codecs below.again below.room
