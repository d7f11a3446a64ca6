use Rattle.recovery_laws.proofs.Epochs.{joined_worlds_know}
use Rattle.recovery_laws.proofs.joined_worlds_know.Goals as goal

pub returns : goal.returns
returns c = joined_worlds_know c.letters_below.ensures.answers
