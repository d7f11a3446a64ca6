-- Records that come behind those of a book.
use Rattle.std.specs.Prelude.{ℕ, List, [], ◌∷◌, map, if◌then◌else◌}
use Rattle.session_book.specs.declared.record.Record.{Record}
use Rattle.session_book.specs.Books.{Kept, fits, stepped}
use Rattle.session_book.specs.Spelling.{content_of}

-- a book after one more record, which is nothing where it isn't in place
abbrev pub kept_after : Kept → Record → Kept
kept_after k r = if fits k r then stepped k r else k

-- and after more of them
unfoldable pub kept_after_all : Kept → List Record → Kept
kept_after_all k [] = k
kept_after_all k (r ∷ rs) = kept_after_all (kept_after k r) rs

-- those that are in place, each behind the ones before it: they alone are committed
unfoldable pub fitting : Kept → List Record → List Record
fitting k [] = []
fitting k (r ∷ rs) = if fits k r then r ∷ fitting (stepped k r) rs else fitting k rs

abbrev pub spelled : List Record → List (List ℕ)
spelled rs = map (λ r. content_of r) rs
