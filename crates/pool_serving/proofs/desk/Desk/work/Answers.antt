use Rattle.pool_turns.proofs.Drawing.{draws_none}
use Rattle.pool_serving.proofs.desk.Desk.work.Goals as goal

pub returns-in-Empty-clause-grows : goal.returns-in-Empty-clause-grows
returns-in-Empty-clause-grows g c = draws_none _
