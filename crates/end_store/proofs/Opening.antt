-- The book of a file that was opened, and where it is refused.
use Rattle.std.proofs.Common.{◌≡◌, inl, inr, ℕ, ◌+◌, ◌<◌, ◌≤◌, Bool, true, false, cond, List, [], ◌∷◌, length, drop, Option, Some, None, Ok, Err, refl, sym, ap, subst, ◌∙◌, arith}
use Rattle.std.specs.Prelude.{Result, IfSome, nat_lt}
use Rattle.disk_core.specs.Disk.{Held}
use Rattle.session_book.specs.declared.book.BookError.{BookError}
use Rattle.session_book.specs.declared.book.BookError.TheVariants as book_error
use Rattle.session_book.specs.Books.{Kept, is_in_place, after_content, folded, book_of}
use Rattle.checkpoint_journal.specs.Format.{start_of, opens, is_made, checked, differs, header}
use Rattle.checkpoint_journal.specs.Commit.{IsFile}
use Rattle.checkpoint_journal.specs.State.{State}
use Rattle.checkpoint_journal.specs.Answers.{Opens, IsSame, IsUnwritten, IsMadeNew}
use Rattle.checkpoint_journal.specs.declared.open.JournalOpen.{JournalOpen}
use Rattle.checkpoint_journal.specs.declared.open.JournalOpen.TheVariants.{NotJournal, StoreFault, NoMemory}
use Rattle.end_store.specs.Stored.{placed, booked, reads, IsRead, IsLeftBehind}

-- ---- the place of a content

within_of : (b : Bool) (r : Result Kept BookError) (i at count : ℕ) → cond b r (Err (book_error.BadRecord i)) ≡ Err (book_error.BadRecord at)
    → (r ≡ Err (book_error.BadRecord at) → at < i + 1 + count) → at < i + (count + 1)
within_of true r i at count is more = let lt = more is in omega arith
within_of false r i at count is more = let same : i ≡ at = cc in omega arith

-- it is one of the contents
bad_within : (k : Kept) (i : ℕ) (contents : List (List ℕ)) (at : ℕ) → folded k i contents ≡ Err (book_error.BadRecord at) → at < i + length contents
bad_within k i [] at is = absurd cc
bad_within k i (c ∷ cs) at is =
    let lt = within_of (is_in_place k c) (folded (after_content k c) (i + 1) cs) i at (length cs) is (λ more. bad_within (after_content k c) (i + 1) cs at more) in
    omega arith

pub bad_place : (contents : List (List ℕ)) (at most : ℕ) → book_of contents ≡ Err (book_error.BadRecord at) → length contents ≤ most → at ≤ most
bad_place contents at most is few = let lt = bad_within _ 0 contents at is in omega arith

-- ---- a file that was opened

abbrev opened_with : List (List ℕ) → Result (List (List ℕ)) ℕ
opened_with contents = Ok contents

module _ (kind number : ℕ) (j : State) (contents : List (List ℕ)) (file : Option Held) where
  place_of : (held : Held) → IsSame file held → IfSome file (IsFile j.kind j.number j.start contents) → start_of held.bytes ≡ j.start
  place_of held (inl is) opened = (subst (λ (o : Option Held). IfSome o (IsFile j.kind j.number j.start contents)) is opened).area
  place_of held (inr is) opened = (subst (λ (o : Option Held). IfSome o (IsFile j.kind j.number j.start contents)) is opened).area

  none_of : (b : Bool) → cond b (Err 0) (opened_with []) ≡ opened_with contents → contents ≡ []
  none_of true is = absurd cc
  none_of false is = cc

  none_unmade : (held : Held) → opens kind number held.bytes ≡ Ok contents → is_made held.bytes ≡ false → contents ≡ []
  unfolding opens
  none_unmade held opened unmade =
      let first : Result (List (List ℕ)) ℕ = checked held.bytes (differs 1 (header kind number) (drop 1 held.bytes)) in
      let rest : Result (List (List ℕ)) ℕ = cond (nat_lt 33 (length held.bytes)) (Err 0) (Ok []) in
      none_of (nat_lt 33 (length held.bytes)) (sym (ap (λ (b : Bool). cond b first rest) unmade) ∙ opened)

  never : (at start : ℕ) → contents ≡ [] → placed start (book_of contents) ≡ Err at → ⊥
  never at start none read = let empty = ap (λ (cs : List (List ℕ)). placed start (book_of cs)) none in absurd cc

  refused_at : (held : Held) (at : ℕ) (b : Bool) → is_made held.bytes ≡ b → opens kind number held.bytes ≡ Ok contents → IsUnwritten file held
      → IfSome file (IsFile j.kind j.number j.start contents) → placed j.start (book_of contents) ≡ Err at → reads kind number held.bytes ≡ Err at
  refused_at held at true made opened unwritten is read =
      ap (booked (start_of held.bytes)) opened ∙ ap (λ (start : ℕ). placed start (book_of contents)) (place_of held (unwritten (inl made)) is) ∙ read
  refused_at held at false unmade opened unwritten is read = absurd (never at j.start (none_unmade held opened unmade) read)

  pub refused_opens : (T : Type 0) (view : T → Kept) (o : Option Held) (e : JournalOpen) → IfSome o (λ held. opens kind number held.bytes ≡ Ok contents)
      → IfSome o (IsUnwritten file) → IfSome file (IsFile j.kind j.number j.start contents) → IsRead (placed j.start (book_of contents)) (Err e)
      → IfSome o (λ held. Opens {T = T} view (reads kind number held.bytes) (Err e))
  refused_opens T view None e opened unwritten is read = tt
  refused_opens T view (Some held) (NotJournal at) opened unwritten is read = refused_at held at (is_made held.bytes) refl opened unwritten is read
  refused_opens T view (Some held) StoreFault opened unwritten is read = absurd read
  refused_opens T view (Some held) NoMemory opened unwritten is read = tt

  same_at : (held : Held) (at : ℕ) (b : Bool) → is_made held.bytes ≡ b → opens kind number held.bytes ≡ Ok contents → IsUnwritten file held
      → placed j.start (book_of contents) ≡ Err at → IsSame file held
  same_at held at true made opened unwritten read = unwritten (inl made)
  same_at held at false unmade opened unwritten read = absurd (never at j.start (none_unmade held opened unmade) read)

  left_by : (T : Type 0) (held : Held) (b : Bool) → is_made held.bytes ≡ b → IsUnwritten file held → IsMadeNew kind number file held
      → IsLeftBehind {T = T} kind number file (Err NoMemory) held
  left_by T held true made unwritten new = inl (unwritten (inl made))
  left_by T held false unmade unwritten new = inr (unmade, new unmade)

  pub refused_leaves : (T : Type 0) (o : Option Held) (e : JournalOpen) → IfSome o (λ held. opens kind number held.bytes ≡ Ok contents)
      → IfSome o (IsUnwritten file) → IfSome o (IsMadeNew kind number file) → IsRead (placed j.start (book_of contents)) (Err e)
      → IfSome o (IsLeftBehind {T = T} kind number file (Err e))
  refused_leaves T None e opened unwritten new read = tt
  refused_leaves T (Some held) (NotJournal at) opened unwritten new read = same_at held at (is_made held.bytes) refl opened unwritten read
  refused_leaves T (Some held) StoreFault opened unwritten new read = absurd read
  refused_leaves T (Some held) NoMemory opened unwritten new read = left_by T held (is_made held.bytes) refl unwritten new
