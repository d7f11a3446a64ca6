use Rattle.channel_laws.proofs.Heard.{none_is_of_another}
use Rattle.channel_laws.proofs.letters_are_of_their_epoch.Goals as goal

pub returns : goal.returns
returns c = let below = c.laws_below.ensures in none_is_of_another below.codecs below.again below.room below.classes
