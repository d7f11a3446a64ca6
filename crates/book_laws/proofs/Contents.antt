-- Records in place, as contents.
use Rattle.std.proofs.Common.{◌≡◌, ℕ, ◌+◌, true, cond, List, [], ◌∷◌, map, Some, Ok, Err, refl, ◌∙◌, ap}
use Rattle.std.specs.List.{AllByRecursion}
use Rattle.session_book.specs.declared.record.Record.{Record}
use Rattle.session_book.specs.declared.book.BookError.TheVariants.{BadRecord}
use Rattle.session_book.specs.Records.{record_of}
use Rattle.session_book.specs.Books.{Kept, nothing_kept, stepped, is_record_in_place, is_in_place, after_record, after_content, folded}
use Rattle.session_book.specs.Spelling.{content_of, FitsBytes, RecordsAreReadAgain}
use Rattle.book_laws.specs.Books.{AreInPlace, book_after, ContentsHaveTheBook}

folded_so : RecordsAreReadAgain → (k : Kept) (rs : List Record) (at : ℕ) → AllByRecursion FitsBytes rs → AreInPlace k rs
    → folded k at (map (λ r. content_of r) rs) ≡ Ok (book_after k rs)
folded_so read_again k [] at bytes placed = refl
folded_so read_again k (r ∷ rs) at bytes placed =
    let content = content_of r in
    let more = map (λ x. content_of x) rs in
    let again : record_of content ≡ Some r = read_again r bytes.0 in
    let here : is_in_place k content ≡ true = ap (is_record_in_place k) again ∙ placed.0 in
    let after : after_content k content ≡ stepped k r =
    ap (λ b. cond b (after_record k (record_of content)) k) here ∙ ap (after_record k) again in
    ap (λ b. cond b (folded (after_content k content) (at + 1) more) (Err (BadRecord at))) here
    ∙ ap (λ (x : Kept). folded x (at + 1) more) after
    ∙ folded_so read_again (stepped k r) rs (at + 1) bytes.1 placed.1

pub contents_have_the_book : RecordsAreReadAgain → ContentsHaveTheBook
contents_have_the_book read_again rs bytes placed = folded_so read_again nothing_kept rs 0 bytes placed
