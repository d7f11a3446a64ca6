-- What a refusal of contents tells.
use Rattle.std.specs.Prelude.{◌≡◌, Result, Err}
use Rattle.session_book.specs.declared.book.BookError.{BookError}
use Rattle.session_book.specs.declared.book.BookError.TheVariants.{BadRecord, NoMemory}
use Rattle.session_book.specs.Books.{Kept}

abbrev pub Told : BookError → Result Kept BookError → Type 0
Told (BadRecord at) read = read ≡ Err (BadRecord at)
Told NoMemory read = Unit {0}
