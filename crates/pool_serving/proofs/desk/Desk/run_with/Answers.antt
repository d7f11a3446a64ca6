use Rattle.pool_turns.proofs.Drawing.{draws_none}
use Rattle.pool_serving.proofs.desk.Desk.run_with.Goals as goal

pub returns-in-Err-clause-grows : goal.returns-in-Err-clause-grows
returns-in-Err-clause-grows g c = draws_none _
