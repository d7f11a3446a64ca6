use Rattle.pool_serving.proofs.Answering.{ok_always, err_always}
use Rattle.pool_serving.proofs.Parts.{takes_ether, cut_at_ether, failed_at_ether, got_ether}
use Rattle.pool_serving.proofs.desk.Desk.from_ether.Goals as goal

pub returns-in_err-got-clause-err : goal.returns-in_err-got-clause-err
returns-in_err-got-clause-err g c = err_always c.from_residual.result (failed_at_ether _ _ _ c.in_err-got.ensures.failed)

pub returns-clause-ok : goal.returns-clause-ok
returns-clause-ok g c = ok_always c.run_some.result (got_ether _ _ _ (takes_ether _ _ _ _ c.in_ok-got.ensures.taken c.run_some.ensures.draws))

pub returns-clause-err : goal.returns-clause-err
returns-clause-err g c = err_always c.run_some.result (cut_at_ether _ _ _ _ c.in_ok-got.ensures.taken _ c.run_some.ensures.draws)
