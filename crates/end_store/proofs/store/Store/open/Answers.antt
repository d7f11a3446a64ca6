use Rattle.std.proofs.lemmas.Result.{err_from_is_err_and}
use Rattle.end_store.specs.Stored.{Stored}
use Rattle.end_store.proofs.Opening.{refused_opens, refused_leaves}
use Rattle.end_store.proofs.store.Store.open.Goals as goal

pub returns-in_err-book-clause-opens : goal.returns-in_err-book-clause-opens
returns-in_err-book-clause-opens g c =
    let p = err_from_is_err_and c.from_residual-in_err-book.result c.from_residual-in_err-book.ensures.1 in
    rw (p.1, p.2) (refused_opens c.args.kind c.args.number c.in_ok-journal.journal c.in_ok-journal.contents (g.D.Disk.holds c.open_disk.new.disk) _ (λ (s : Stored). s.kept) (g.D.Disk.holds c.args.disk.now) c.in_err-book.field-0.0
    c.in_ok-journal.ensures.opens c.open_disk.ensures.unwritten c.in_ok-journal.ensures.contents.file c.in_err-book.ensures)

pub returns-in_err-book-clause-refused : goal.returns-in_err-book-clause-refused
returns-in_err-book-clause-refused g c =
    let p = err_from_is_err_and c.from_residual-in_err-book.result c.from_residual-in_err-book.ensures.1 in
    rw (p.1, p.2) (refused_leaves c.args.kind c.args.number c.in_ok-journal.journal c.in_ok-journal.contents (g.D.Disk.holds c.open_disk.new.disk) Stored (g.D.Disk.holds c.args.disk.now) c.in_err-book.field-0.0
    c.in_ok-journal.ensures.opens c.open_disk.ensures.unwritten c.in_ok-journal.ensures.made_new c.in_err-book.ensures)
