use Rattle.pool_turns.proofs.Drawing.{draws_none, draws_then, gives_draws}
use Rattle.pool_serving.proofs.Giving.{grows_by}
use Rattle.pool_serving.proofs.desk.Desk.ring.Goals as goal

pub returns-in_default-hold_some-clause-grows : goal.returns-in_default-hold_some-clause-grows
returns-in_default-hold_some-clause-grows g c = draws_none _

pub returns-in-Err-clause-grows : goal.returns-in-Err-clause-grows
returns-in-Err-clause-grows g c = draws_none _

pub returns-in-Ok-pads-clause-grows : goal.returns-in-Ok-pads-clause-grows
returns-in-Ok-pads-clause-grows g c = draws_then 0 0 _ _ _ (gives_draws _ _ _ c.in_ok-give_turn.ensures.ok) (grows_by c.send_frame.result _ _ _ c.send_frame.ensures.ok c.send_frame.ensures.err)
