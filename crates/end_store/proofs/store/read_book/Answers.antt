use Rattle.std.proofs.Common.{arith, subst}
use Rattle.session_book.specs.declared.book.BookError.{BookError}
use Rattle.session_book.specs.Books.{book_of}
use Rattle.session_book.specs.Told.{Told}
use Rattle.checkpoint_journal.proofs.Parts.{most_is}
use Rattle.end_store.proofs.Opening.{bad_place}
use Rattle.end_store.proofs.store.read_book.Goals as goal

pub overflow_cast-at : goal.overflow_cast-at
overflow_cast-at c =
    let told = subst (λ (e : BookError). Told e (book_of c.args.contents.now)) c.in-Err-BadRecord.field-0-is c.in-Err-BadRecord.ensures.contents in
    let le = bad_place c.args.contents.now c.in-Err-BadRecord.at _ told c.requires.few in
    let m = most_is in
    omega arith

pub content_place-requires : goal.content_place-requires
content_place-requires c =
    let told = subst (λ (e : BookError). Told e (book_of c.args.contents.now)) c.in-Err-BadRecord.field-0-is c.in-Err-BadRecord.ensures.contents in
    bad_place c.args.contents.now c.in-Err-BadRecord.at _ told c.requires.few
