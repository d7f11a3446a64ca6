use Rattle.pool_turns.proofs.Drawing.{draws_then}
use Rattle.pool_serving.proofs.Answering.{ok_always, err_always}
use Rattle.pool_serving.proofs.desk.Desk.pass_time.Goals as goal

pub returns-clause-ok : goal.returns-clause-ok
returns-clause-ok g c = ok_always c.tick.result (draws_then 0 1 _ _ _ c.collect_due.ensures.grows c.tick.ensures.draws)

pub returns-clause-err : goal.returns-clause-err
returns-clause-err g c = err_always c.tick.result (1, draws_then 0 1 _ _ _ c.collect_due.ensures.grows c.tick.ensures.draws)
