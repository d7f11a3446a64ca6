use Rattle.node_pool.proofs.Ends.{pool_ran_as, pool_blamed_as}
use Rattle.node_pool.proofs.pool.end_hub.Goals as goal

pub returns-clause-ran : goal.returns-clause-ran
returns-clause-ran g c = λ opens turns old new h. pool_ran_as _ _ _ opens turns _ old new c.pool_fault-why.ensures h

pub returns-clause-cause : goal.returns-clause-cause
returns-clause-cause g c = λ disk old new same h. pool_blamed_as _ disk _ _ _ old new _ _ c.pool_fault-why.ensures same h c.end-ended.ensures.tells c.end-ended.ensures.records
