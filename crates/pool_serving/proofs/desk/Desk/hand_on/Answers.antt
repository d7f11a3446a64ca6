use Rattle.pool_turns.proofs.Drawing.{draws_none}
use Rattle.pool_serving.proofs.desk.Desk.hand_on.Goals as goal

pub returns-in-Carried-Dropped-clause-grows : goal.returns-in-Carried-Dropped-clause-grows
returns-in-Carried-Dropped-clause-grows g c = draws_none _

pub returns-in-Failed-clause-grows : goal.returns-in-Failed-clause-grows
returns-in-Failed-clause-grows g c = draws_none _
