use Rattle.std.proofs.Common.{List, Ok, sym, subst}
use Rattle.std.proofs.lemmas.Result.{err_from_is_err_and}
use Rattle.session_book.specs.declared.record.Record.{Record}
use Rattle.end_core.proofs.Committed.{refused_by}
use Rattle.lac_core.specs.contracts.Lac.{the_view as view_of}
use Rattle.lac_core.proofs.Quiet.{quiet_records}
use Rattle.lac_core.proofs.Lac.tell.Goals as goal

pub returns-in_err-commit_moves-clause-committed : goal.returns-in_err-commit_moves-clause-committed
returns-in_err-commit_moves-clause-committed g c =
    let p = err_from_is_err_and c.from_residual.result c.from_residual.ensures.1 in
    refused_by g.L.Ledger.commits_to _ p.0 _ _ _ _ _ p.1 p.2 (quiet_records c.args.self.now (view_of c.self.inside) c.args.outputs c.args.reply c.self.view_is) c.in_err-commit_moves.ensures

pub returns-clause-committed : goal.returns-clause-committed
returns-clause-committed g c =
    subst (λ (rs : List Record). g.L.Ledger.commits_to c.args.ledger.now rs (Ok tt) c.commit_moves.new.ledger) (sym (quiet_records c.args.self.now (view_of c.self.inside) c.args.outputs c.args.reply c.self.view_is)) c.in_ok-commit_moves.ensures
