use Rattle.pool_giving.proofs.Alike.{as_lns, as_lac}
use Rattle.pool_giving.proofs.laws.gives_as_a_node.Goals as goal

pub returns-clause-lns : goal.returns-clause-lns
returns-clause-lns c = as_lns

pub returns-clause-lac : goal.returns-clause-lac
returns-clause-lac c = λ h l outs number access are. as_lac h l number access outs are
