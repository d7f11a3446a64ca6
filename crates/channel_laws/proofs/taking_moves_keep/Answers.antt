use Rattle.channel_laws.proofs.Takings.{taking_moves_keep}
use Rattle.channel_laws.proofs.taking_moves_keep.Goals as goal

pub returns : goal.returns
returns c = let below = c.laws_below.ensures in taking_moves_keep below.calm below.codecs below.again below.room below.classes
