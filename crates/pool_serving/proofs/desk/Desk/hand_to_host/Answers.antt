use Rattle.pool_turns.proofs.Drawing.{draws_none}
use Rattle.pool_serving.proofs.Giving.{gives_nothing}
use Rattle.pool_serving.proofs.desk.Desk.hand_to_host.Goals as goal

pub returns-in_err-host-clause-handed : goal.returns-in_err-host-clause-handed
returns-in_err-host-clause-handed g c = gives_nothing c.from_residual.result _ _ c.from_residual.ensures.0

pub returns-in_err-host-clause-grows : goal.returns-in_err-host-clause-grows
returns-in_err-host-clause-grows g c = draws_none _
