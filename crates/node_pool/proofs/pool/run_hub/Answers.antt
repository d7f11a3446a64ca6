use Rattle.node_pool.proofs.Ends.{ran_nothing_by}
use Rattle.node_pool.proofs.pool.run_hub.Goals as goal

pub returns-in-Err-clause-ran : goal.returns-in-Err-clause-ran
returns-in-Err-clause-ran g c = ran_nothing_by _ _ _ _ _ c.no_tally-tally.ensures
