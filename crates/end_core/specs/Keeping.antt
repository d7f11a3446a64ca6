-- The calls of a book, by their tunnels.
use Rattle.std.specs.Prelude.{◌≡◌, ℕ, List, [], Option, Some, None}
use Rattle.id_table.specs.Ids.{at}
use Rattle.session_book.specs.declared.record.BookCall.{BookCall}
use Rattle.session_book.specs.Books.{calls_of}

-- those of a tunnel, none where the table has none
abbrev pub calls_in : Option (List BookCall) → List BookCall
calls_in None = []
calls_in (Some calls) = calls

-- a table has those of each tunnel
abbrev pub AreByTunnel : List (ℕ × List BookCall) → List BookCall → Type 0
AreByTunnel es calls = (i : ℕ) → calls_in (at es i) ≡ calls_of i calls
