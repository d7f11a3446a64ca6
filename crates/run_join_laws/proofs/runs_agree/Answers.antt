use Rattle.run_join_laws.proofs.Follows.{runs_agree}
use Rattle.run_join_laws.proofs.runs_agree.Goals as goal

pub returns : goal.returns
returns c = runs_agree c.cut_steps_join.ensures c.worlds_are_joined.ensures c.joined_runs_stay_below.ensures c.joined_worlds_cover.ensures c.joined_worlds_agree.ensures
