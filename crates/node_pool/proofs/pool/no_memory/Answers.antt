use Rattle.node_pool.proofs.Ends.{ran_nothing_by}
use Rattle.node_pool.proofs.pool.no_memory.Goals as goal

pub returns-clause-ran : goal.returns-clause-ran
returns-clause-ran g c = λ opens turns a. ran_nothing_by _ opens turns _ a c.no_tally-tally.ensures
