-- What may be found on the disk while its journal is compacted.
use Rattle.std.proofs.Common.{◌≡◌, inl, inr, ℕ, List, length, Option, Some, None, Ok, refl, sym, ap, subst, ◌∙◌}
use Rattle.std.specs.Prelude.{Result, Err, OnOk}
use Rattle.disk_core.specs.Disk.{Held}
use Rattle.session_book.specs.Books.{Kept, book_of}
use Rattle.session_book.specs.Spelling.{contents_of}
use Rattle.checkpoint_journal.specs.Format.{opens, IsOldOrNew}
use Rattle.checkpoint_journal.specs.State.{State, HasContents, FindsOldOrNew}
use Rattle.checkpoint_journal.proofs.Same.{finds_contents}
use Rattle.end_store.specs.Stored.{Stored, IsStored, OpensWithBook, FindsBook}
use Rattle.end_store.proofs.Found.{reads_book}

-- nothing was written
pub finds_untouched : (s : Stored) (before : List (List ℕ)) (o : Option Held) → IsStored s before o → FindsBook s before o
finds_untouched s before None stored = tt
finds_untouched s before (Some held) stored = λ image found.
    let opened = finds_contents s.journal before (Some held) stored.journal image found in
    (inl opened, reads_book s.journal.kind s.journal.number image before s.kept opened stored.book)

-- both lists have the book
either_of : (s : Stored) (before : List (List ℕ)) (image : List ℕ) → book_of before ≡ Ok s.kept → book_of (contents_of s.kept) ≡ Ok s.kept
    → IsOldOrNew s.journal.kind s.journal.number before (contents_of s.kept) image → OpensWithBook s before image
either_of s before image old new (inl opened) = (inl opened, reads_book s.journal.kind s.journal.number image before s.kept opened old)
either_of s before image old new (inr opened) = (inr opened, reads_book s.journal.kind s.journal.number image (contents_of s.kept) s.kept opened new)

finds_both : (s : Stored) (before : List (List ℕ)) (now : Option Held) → book_of before ≡ Ok s.kept → book_of (contents_of s.kept) ≡ Ok s.kept
    → FindsOldOrNew s.journal before (contents_of s.kept) now → FindsBook s before now
finds_both s before None old new finds = tt
finds_both s before (Some held) old new finds = λ image found. either_of s before image old new (finds image found)

-- ---- in a store whose parts are these

-- while the journal is compacted to the book's contents
pub finds_compacted : (parts s : Stored) → parts ≡ s → (before contents : List (List ℕ)) (o now : Option Held) → contents ≡ contents_of parts.kept
    → book_of contents ≡ Ok parts.kept → IsStored s before o
    → ((old : List (List ℕ)) → HasContents parts.journal old o → FindsOldOrNew parts.journal old contents now) → FindsBook s before now
finds_compacted parts s same before contents o now is book stored finds =
    let here : IsStored parts before o = subst (λ (x : Stored). IsStored x before o) (sym same) stored in
    let found : FindsOldOrNew parts.journal before (contents_of parts.kept) now =
    subst (λ (cs : List (List ℕ)). FindsOldOrNew parts.journal before cs now) is (finds before here.journal)
    in
    subst (λ (x : Stored). FindsBook x before now) same (finds_both parts before now here.book (ap book_of (sym is) ∙ book) found)

on_ok : {T E P Q : Type 0} (result : Result T E) → (P → Q) → OnOk result P → OnOk result Q
on_ok (Ok done) more so = more so
on_ok (Err e) more so = tt

-- and once it is
pub stored_compacted : {T E : Type 0} (result : Result T E) (parts s : Stored) → parts ≡ s → (j : State) (before contents : List (List ℕ)) (o now : Option Held)
    → contents ≡ contents_of parts.kept → book_of contents ≡ Ok parts.kept → IsStored s before o
    → ((old : List (List ℕ)) → HasContents parts.journal old o → OnOk result (HasContents j contents now))
    → OnOk result (IsStored (record { journal = j; kept = parts.kept; spare = parts.spare }) (contents_of s.kept) now)
stored_compacted {T} {E} result parts s same j before contents o now is book stored has =
    let here : IsStored parts before o = subst (λ (x : Stored). IsStored x before o) (sym same) stored in
    let all : contents ≡ contents_of s.kept = is ∙ ap (λ (x : Stored). contents_of x.kept) same in
    let makes : HasContents j contents now → IsStored (record { journal = j; kept = parts.kept; spare = parts.spare }) (contents_of s.kept) now = λ got. record {
      journal = subst (λ (cs : List (List ℕ)). HasContents j cs now) all got;
      book = ap book_of (sym all) ∙ book;
    } in
    on_ok result makes (has before here.journal)
