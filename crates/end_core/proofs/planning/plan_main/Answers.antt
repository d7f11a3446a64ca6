use Rattle.std.proofs.Common.{List, Ok, sym, subst}
use Rattle.std.proofs.lemmas.Result.{err_from_is_err_and}
use Rattle.session_book.specs.declared.record.Record.{Record}
use Rattle.id_table.specs.Ids.{at}
use Rattle.tunnel_table.specs.Tunnels.{tunnels_of}
use Rattle.end_core.proofs.Plans.{tunnel_some}
use Rattle.end_core.proofs.Committed.{refused_by, main_planned}
use Rattle.end_core.proofs.planning.plan_main.Goals as goal

pub returns-in_err-commit_planned-clause-committed : goal.returns-in_err-commit_planned-clause-committed
returns-in_err-commit_planned-clause-committed g c =
    let p = err_from_is_err_and c.from_residual-in_err-commit_planned.result c.from_residual-in_err-commit_planned.ensures.1 in
    refused_by g.L.Ledger.commits_to _ p.0 _ _ _ _ _ p.1 p.2 (main_planned c.args.env.now c.plan.new.env c.spaces_of-before.result c.spaces_of-before.ensures c.args.role c.args.config.now c.args.task.now (at (tunnels_of c.args.tunnels.now.entries) c.args.id) (tunnel_some c.args.tunnels.now.entries c.args.id c.requires.there) c.in_ok-planned.ensures.given) c.in_err-commit_planned.ensures.committed

pub returns-clause-committed : goal.returns-clause-committed
returns-clause-committed g c =
    subst (λ (rs : List Record). g.L.Ledger.commits_to c.args.ledger.now rs (Ok tt) c.commit_planned.new.ledger) (sym (main_planned c.args.env.now c.plan.new.env c.spaces_of-before.result c.spaces_of-before.ensures c.args.role c.args.config.now c.args.task.now (at (tunnels_of c.args.tunnels.now.entries) c.args.id) (tunnel_some c.args.tunnels.now.entries c.args.id c.requires.there) c.in_ok-planned.ensures.given)) c.in_ok-commit_planned.ensures.committed
