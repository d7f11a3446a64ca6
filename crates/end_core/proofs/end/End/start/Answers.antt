use Rattle.std.proofs.Common.{List, ◌<◌, Ok, sym, ap, subst, ◌∙◌}
use Rattle.std.proofs.lemmas.Result.{err_from_is_err_and}
use Rattle.std.specs.List.{AllByRecursion}
use Rattle.session_book.specs.declared.record.Record.{Record}
use Rattle.session_book.specs.declared.record.BookCall.{BookCall}
use Rattle.session_book.specs.declared.record.BookTunnel.{BookTunnel}
use Rattle.end_model.specs.End.{drawing_of}
use Rattle.end_core.specs.Keeping.{AreByTunnel}
use Rattle.end_core.proofs.Committed.{refused_by, start_records}
use Rattle.end_core.proofs.Returning.{windows, started_by}
use Rattle.end_core.proofs.end.End.start.Goals as goal

pub restore_all-requires : goal.restore_all-requires
restore_all-requires g c =
    subst (λ (ts : List BookTunnel). AllByRecursion (λ t. 0 < t.window) ts) (sym (c.as_slice-2.ensures.value ∙ c.tunnels.ensures.tunnels)) (windows c.book-book.result.now.kept c.is_whole.ensures)

pub returns-in_err-commit_step-clause-committed : goal.returns-in_err-commit_step-clause-committed
returns-in_err-commit_step-clause-committed g c =
    let p = err_from_is_err_and c.from_residual-in_err-commit_step.result c.from_residual-in_err-commit_step.ensures.1 in
    let k = c.book-book.result.now.kept in
    let are = subst (λ (cs : List BookCall). AreByTunnel c.in_ok-by_tunnel.by_tunnel.entries cs) (c.as_slice.ensures.value ∙ c.calls.ensures.calls) c.in_ok-by_tunnel.ensures in
    let given = started_by c.args.self.now c.deref_mut.result.now c.restore_all.new.self k c.args.moment c.args.block c.as_slice-2.result.now c.nothing-given.result c.restore_all.new.given
    (c.as_slice-2.ensures.value ∙ c.tunnels.ensures.tunnels) (c.deref_mut.ensures.value ∙ c.in_ok-started.ensures) c.nothing-given.ensures (c.in_ok-restore_all.ensures.restored k are) in
    refused_by g.L.Ledger.commits_to _ p.0 _ _ _ _ _ p.1 p.2 (start_records c.args.self.now c.restore_all.new.self _ k c.args.moment c.args.block c.spaces-before.result c.spaces-after.result c.restore_all.new.given c.as_slice-3.result.now c.book-book.ensures c.spaces-before.ensures (c.spaces-after.ensures ∙ ap drawing_of c.deref.ensures) given c.as_slice-3.ensures) c.in_err-commit_step.ensures

pub returns-clause-committed : goal.returns-clause-committed
returns-clause-committed g c =
    let k = c.book-book.result.now.kept in
    let are = subst (λ (cs : List BookCall). AreByTunnel c.in_ok-by_tunnel.by_tunnel.entries cs) (c.as_slice.ensures.value ∙ c.calls.ensures.calls) c.in_ok-by_tunnel.ensures in
    let given = started_by c.args.self.now c.deref_mut.result.now c.restore_all.new.self k c.args.moment c.args.block c.as_slice-2.result.now c.nothing-given.result c.restore_all.new.given
    (c.as_slice-2.ensures.value ∙ c.tunnels.ensures.tunnels) (c.deref_mut.ensures.value ∙ c.in_ok-started.ensures) c.nothing-given.ensures (c.in_ok-restore_all.ensures.restored k are) in
    subst (λ (rs : List Record). g.L.Ledger.commits_to c.args.ledger.now rs (Ok tt) c.commit_step.new.ledger) (sym (start_records c.args.self.now c.restore_all.new.self _ k c.args.moment c.args.block c.spaces-before.result c.spaces-after.result c.restore_all.new.given c.as_slice-3.result.now c.book-book.ensures c.spaces-before.ensures (c.spaces-after.ensures ∙ ap drawing_of c.deref.ensures) given c.as_slice-3.ensures)) c.in_ok-commit_step.ensures
