use Rattle.run_join_laws.proofs.Follows.{runs_know}
use Rattle.run_join_laws.proofs.runs_know.Goals as goal

pub returns : goal.returns
returns c = runs_know c.worlds_are_joined.ensures c.joined_worlds_know.ensures
