use Rattle.run_join_laws.proofs.Follows.{runs_cover}
use Rattle.run_join_laws.proofs.runs_cover.Goals as goal

pub returns : goal.returns
returns c = runs_cover c.worlds_are_joined.ensures c.joined_worlds_cover.ensures
