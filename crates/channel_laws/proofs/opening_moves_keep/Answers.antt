use Rattle.channel_laws.proofs.Takings.{opening_moves_keep}
use Rattle.channel_laws.proofs.opening_moves_keep.Goals as goal

pub returns : goal.returns
returns c = let below = c.laws_below.ensures in opening_moves_keep below.calm below.codecs below.again below.room
