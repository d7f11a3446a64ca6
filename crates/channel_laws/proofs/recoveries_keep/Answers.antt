use Rattle.channel_laws.proofs.Recoveries.{recoveries_keep}
use Rattle.channel_laws.proofs.recoveries_keep.Goals as goal

pub returns : goal.returns
returns c = let below = c.laws_below.ensures in recoveries_keep below.codecs below.again below.room
