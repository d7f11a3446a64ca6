use Rattle.recovery_laws.proofs.Epochs.{letters_of_joined}
use Rattle.recovery_laws.proofs.letters_are_of_their_epoch.Goals as goal

pub returns : goal.returns
returns c = let below = c.letters_below.ensures in letters_of_joined below.answers below.letters
