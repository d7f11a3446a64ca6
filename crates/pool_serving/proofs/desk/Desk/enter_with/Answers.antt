use Rattle.pool_turns.proofs.Drawing.{draws_none}
use Rattle.pool_serving.proofs.desk.Desk.enter_with.Goals as goal

pub returns-in-Ignored-clause-grows : goal.returns-in-Ignored-clause-grows
returns-in-Ignored-clause-grows g c = draws_none _

pub returns-in-Ok-2-clause-grows : goal.returns-in-Ok-2-clause-grows
returns-in-Ok-2-clause-grows g c = draws_none _

pub returns-in-InCall-clause-grows : goal.returns-in-InCall-clause-grows
returns-in-InCall-clause-grows g c = draws_none _
