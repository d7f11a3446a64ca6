use Rattle.channel_laws.proofs.Still.{still_moves_keep}
use Rattle.channel_laws.proofs.still_moves_keep.Goals as goal

pub returns : goal.returns
returns c = let below = c.laws_below.ensures in still_moves_keep below.codecs below.again below.room
