use Rattle.std.proofs.Common.{List, Ok, sym, subst}
use Rattle.std.proofs.lemmas.Result.{err_from_is_err_and}
use Rattle.session_book.specs.declared.record.Record.{Record}
use Rattle.tunnel_table.specs.Cores.{tunnel_of}
use Rattle.end_core.specs.Gives.{first_turn}
use Rattle.end_core.proofs.Committed.{refused_by, first_planned}
use Rattle.end_core.proofs.planning.plan_first.Goals as goal

pub returns-in_err-commit_new-clause-committed : goal.returns-in_err-commit_new-clause-committed
returns-in_err-commit_new-clause-committed g c =
    let p = err_from_is_err_and c.from_residual-in_err-commit_new.result c.from_residual-in_err-commit_new.ensures.1 in
    refused_by g.L.Ledger.commits_to _ p.0 _ _ _ _ _ p.1 p.2 (first_planned c.args.env.now c.plan_step.new.env c.spaces_of-before.result c.spaces_of-before.ensures c.in_ok-planned.planned (first_turn c.args.role c.args.config.now c.args.event.now c.args.env.now (tunnel_of c.args.core.now)) c.in_ok-planned.ensures.planned c.in_ok-planned.ensures.given) c.in_err-commit_new.ensures.committed

pub returns-clause-committed : goal.returns-clause-committed
returns-clause-committed g c =
    subst (λ (rs : List Record). g.L.Ledger.commits_to c.args.ledger.now rs (Ok tt) c.commit_new.new.ledger) (sym (first_planned c.args.env.now c.plan_step.new.env c.spaces_of-before.result c.spaces_of-before.ensures c.in_ok-planned.planned (first_turn c.args.role c.args.config.now c.args.event.now c.args.env.now (tunnel_of c.args.core.now)) c.in_ok-planned.ensures.planned c.in_ok-planned.ensures.given)) c.in_ok-commit_new.ensures.committed
