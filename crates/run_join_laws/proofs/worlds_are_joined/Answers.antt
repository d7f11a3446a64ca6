use Rattle.run_join_laws.proofs.worlds_are_joined.Goals as goal

pub returns : goal.returns
returns c = c.joined_runs_stand.ensures c.cut_steps_join.ensures
