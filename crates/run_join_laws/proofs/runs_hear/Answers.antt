use Rattle.run_join_laws.proofs.Follows.{runs_hear}
use Rattle.run_join_laws.proofs.runs_hear.Goals as goal

pub returns : goal.returns
returns c = runs_hear c.worlds_are_joined.ensures c.letters_are_of_their_epoch.ensures
