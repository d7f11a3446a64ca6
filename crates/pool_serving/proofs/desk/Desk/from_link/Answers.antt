use Rattle.std.proofs.Common.{◌≡◌}
use Rattle.pool_serving.specs.Handing.{puts_in}
use Rattle.pool_serving.proofs.Answering.{ok_then, err_then, err_always, both}
use Rattle.pool_serving.proofs.Passes.{puts_still}
use Rattle.pool_serving.proofs.Parts.{takes_link, cut_at_link, failed_at_link}
use Rattle.pool_serving.proofs.desk.Desk.from_link.Goals as goal

pub returns-in_err-got-clause-err : goal.returns-in_err-got-clause-err
returns-in_err-got-clause-err g c = err_always c.from_residual.result (both (failed_at_link _ _ _ c.in_err-got.ensures.failed) (puts_still c.args.pass.now))

pub returns-clause-ok : goal.returns-clause-ok
returns-clause-ok g c = ok_then c.put_some.result (λ (p : puts_in c.put_some.new.pass ≡ _). (_, _, takes_link _ _ _ _ c.in_ok-got.ensures.taken _ c.put_some.ensures.draws, p)) c.put_some.ensures.ok

pub returns-clause-err : goal.returns-clause-err
returns-clause-err g c = err_then c.put_some.result (λ (p : puts_in c.put_some.new.pass ≡ puts_in c.args.pass.now). both (cut_at_link _ _ _ _ c.in_ok-got.ensures.taken _ c.put_some.ensures.draws) p) c.put_some.ensures.err
