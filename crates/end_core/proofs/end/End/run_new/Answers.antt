use Rattle.std.proofs.Common.{Ok, sym, subst, ap}
use Rattle.std.proofs.lemmas.Result.{err_from_is_err_and}
use Rattle.end_model.specs.Tunnels.{Env}
use Rattle.end_model.specs.Contents.{contents_of}
use Rattle.end_model.specs.End.{in_new}
use Rattle.end_core.proofs.Committed.{refused_by}
use Rattle.end_core.proofs.end.End.run_new.Goals as goal

pub returns-in_err-take_first_step-clause-committed : goal.returns-in_err-take_first_step-clause-committed
returns-in_err-take_first_step-clause-committed g c =
    let p = err_from_is_err_and c.from_residual.result c.from_residual.ensures.1 in
    refused_by g.L.Ledger.commits_to _ p.0 _ _ _ _ _ p.1 p.2 (ap (λ (x : Env). contents_of c.args.self.now (in_new c.args.self.now x c.args.event.now c.args.peer)) (sym c.env-env.ensures)) c.in_err-take_first_step.ensures.committed

pub returns-clause-committed : goal.returns-clause-committed
returns-clause-committed g c =
    subst (λ (x : Env). g.L.Ledger.commits_to c.args.ledger.now (contents_of c.args.self.now (in_new c.args.self.now x c.args.event.now c.args.peer)) (Ok tt) c.take_first_step.new.ledger) c.env-env.ensures c.in_ok-take_first_step.ensures.committed
