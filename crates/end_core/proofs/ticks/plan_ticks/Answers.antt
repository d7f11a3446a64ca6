use Rattle.std.proofs.Common.{List, Ok, ap, sym, subst, ◌∙◌}
use Rattle.std.proofs.lemmas.Result.{err_from_is_err_and}
use Rattle.session_book.specs.declared.record.Record.{Record}
use Rattle.end_model.specs.Tunnels.{Env}
use Rattle.end_core.proofs.Committed.{refused_by, ticks_planned}
use Rattle.end_core.proofs.ticks.plan_ticks.Goals as goal

pub returns-in_err-commit_step-clause-committed : goal.returns-in_err-commit_step-clause-committed
returns-in_err-commit_step-clause-committed g c =
    let p = err_from_is_err_and c.from_residual-in_err-commit_step.result c.from_residual-in_err-commit_step.ensures.1 in
    refused_by g.L.Ledger.commits_to _ p.0 _ _ _ _ _ p.1 p.2 (ticks_planned c.args.env.now c.plan_all.new.env c.spaces_of-drawing.result _ _ c.spaces_of-drawing.ensures c.in_ok-plans.ensures.given (c.as_slice.ensures ∙ ap (λ (x : Env). x.moves) c.env.view_is)) c.in_err-commit_step.ensures

pub returns-clause-committed : goal.returns-clause-committed
returns-clause-committed g c =
    subst (λ (rs : List Record). g.L.Ledger.commits_to c.args.ledger.now rs (Ok tt) c.commit_step.new.ledger) (sym (ticks_planned c.args.env.now c.plan_all.new.env c.spaces_of-drawing.result _ _ c.spaces_of-drawing.ensures c.in_ok-plans.ensures.given (c.as_slice.ensures ∙ ap (λ (x : Env). x.moves) c.env.view_is))) c.in_ok-commit_step.ensures
