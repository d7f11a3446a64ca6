use Rattle.run_examples.proofs.Computed.{letters_owed_are_counted}
use Rattle.run_examples.proofs.letters_owed_are_counted.Goals as goal

pub returns : goal.returns
returns c = letters_owed_are_counted
