use Rattle.std.proofs.Common.{inr}
use Rattle.std.proofs.lemmas.Result.{on_ok_weaker, IfErr-weaker}
use Rattle.node_run.proofs.turns.serve_opened.Goals as goal

pub returns-clause-ok : goal.returns-clause-ok
returns-clause-ok g c = on_ok_weaker c.serve.result (λ h. (_, c.in_ok-begin.ensures.ok, h.0, h.1, h.2)) c.serve.ensures.ok

pub returns-clause-err : goal.returns-clause-err
returns-clause-err g c = IfErr-weaker c.serve.result _ _ (λ fault h. inr (_, c.in_ok-begin.ensures.ok, h)) c.serve.ensures.err
