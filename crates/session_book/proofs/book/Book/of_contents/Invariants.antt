use Rattle.std.proofs.Common.{◌≡◌, drop}
use Rattle.session_book.specs.Books.{folded, book_of}
use Rattle.session_book.proofs.book.Book.of_contents.Given as goal

abbrev pub invariant-loop-at : goal.invariant-loop-at
invariant-loop-at l = (folded l.book.kept l.at (drop l.at l.fn.c) ≡ book_of l.fn.c) × (l.book.spare ≡ 0)
