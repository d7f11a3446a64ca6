-- What may be found on the disk while records are committed.
use Rattle.std.proofs.Common.{◌≡◌, inl, inr, ℕ, ◌+◌, ◌≤◌, true, false, Bool, cond, List, [], ◌∷◌, ◌++◌, length, take, Option, Some, None, Ok, refl, sym, ap, subst, ◌∙◌, arith, append_assoc}
use Rattle.std.specs.Prelude.{Result, Err, OnOk}
use Rattle.std.proofs.lemmas.List.{map-append, append-nil, take-append-le, length-append}
use Rattle.std.proofs.Math.Seq.{take-append-add}
use Rattle.disk_core.specs.Disk.{Held}
use Rattle.session_book.specs.declared.record.Record.{Record}
use Rattle.session_book.specs.Books.{Kept, fits, stepped, book_of}
use Rattle.session_book.specs.Records.{record_of}
use Rattle.session_book.specs.Spelling.{content_of}
use Rattle.checkpoint_journal.specs.Format.{start_of, opens, IsBeforeOrAfter}
use Rattle.checkpoint_journal.specs.State.{State, HasContents, FindsBeforeOrAfter}
use Rattle.checkpoint_journal.proofs.Same.{finds_contents}
use Rattle.end_store.specs.Records.{kept_after_all, fitting, spelled}
use Rattle.end_store.specs.Stored.{Stored, placed, booked, reads, with_records, IsStored, OpensWithFirst, FindsFirst}
use Rattle.end_store.proofs.Records.{after_more, fitting_more, fitting_same, one_fits, none_fits, after_one, book_more}

-- a file that opens with contents opens with their book
pub reads_book : (kind number : ℕ) (image : List ℕ) (contents : List (List ℕ)) (k : Kept) → opens kind number image ≡ Ok contents → book_of contents ≡ Ok k
    → reads kind number image ≡ Ok k
reads_book kind number image contents k opened book = ap (booked (start_of image)) opened ∙ ap (placed (start_of image)) book

pub spelled_more : (xs ys : List Record) → spelled (xs ++ ys) ≡ spelled xs ++ spelled ys
spelled_more xs ys = map-append (λ (r : Record). content_of r) xs ys

after_none : (k : Kept) → kept_after_all k [] ≡ k
unfolding kept_after_all
after_none k = refl

-- the contents from before
none_of : (s : Stored) (before : List (List ℕ)) (rs : List Record) (least : ℕ) (image : List ℕ) → least ≡ 0 → book_of before ≡ Ok s.kept
    → opens s.journal.kind s.journal.number image ≡ Ok before → OpensWithFirst s before rs least image
none_of s before rs least image is book opened = (
  0,
  omega arith,
  omega arith,
  opened ∙ ap (λ (cs : List (List ℕ)). Ok cs) (sym (append-nil before)),
  reads_book s.journal.kind s.journal.number image before s.kept opened book ∙ ap (λ (k : Kept). Ok k) (sym (after_none s.kept)),
)

pub finds_none : (s : Stored) (before : List (List ℕ)) (rs : List Record) (least : ℕ) (o : Option Held) → least ≡ 0 → IsStored s before o
    → FindsFirst s before rs least o
finds_none s before rs least None is stored = tt
finds_none s before rs least (Some held) is stored = λ image found.
    none_of s before rs least image is stored.book (finds_contents s.journal before (Some held) stored.journal image found)

-- a record that is in place is found or isn't
one_of : (s : Stored) (before : List (List ℕ)) (r : Record) (image : List ℕ) → fits s.kept r ≡ true → record_of (content_of r) ≡ Some r
    → book_of before ≡ Ok s.kept → IsBeforeOrAfter s.journal.kind s.journal.number before (content_of r) image → OpensWithFirst s before (r ∷ []) 0 image
one_of s before r image fit read book (inl opened) = none_of s before (r ∷ []) 0 image refl book opened
one_of s before r image fit read book (inr opened) =
    let one = one_fits s.kept r fit in
    let more = book_more before (content_of r) s.kept r book read fit in
    let after : kept_after_all s.kept (r ∷ []) ≡ stepped s.kept r = after_one s.kept r ∙ ap (λ (b : Bool). cond b (stepped s.kept r) s.kept) fit in (
      1,
      omega arith,
      omega (arith, ap length one),
      opened ∙ ap (λ (rs : List Record). Ok (before ++ spelled (take 1 rs))) (sym one),
      reads_book s.journal.kind s.journal.number image (before ++ content_of r ∷ []) (stepped s.kept r) opened more
          ∙ ap (λ (k : Kept). Ok k) (sym after) ∙ ap (λ (rs : List Record). Ok (kept_after_all s.kept (take 1 rs))) (sym one),
    )

pub finds_one : (s : Stored) (before : List (List ℕ)) (r : Record) (o : Option Held) → fits s.kept r ≡ true → record_of (content_of r) ≡ Some r
    → book_of before ≡ Ok s.kept → FindsBeforeOrAfter s.journal before (content_of r) o → FindsFirst s before (r ∷ []) 0 o
finds_one s before r None fit read book finds = tt
finds_one s before r (Some held) fit read book finds = λ image found. one_of s before r image fit read book (finds image found)

-- What is found of some records, behind those that were committed before them, is found of all.
module _ (s : Stored) (before : List (List ℕ)) (xs ys zs : List Record) where
  abbrev pub front : List Record
  front = fitting s.kept xs

  all_fitting : fitting s.kept (xs ++ (ys ++ zs)) ≡ front ++ (fitting (kept_after_all s.kept xs) ys ++ fitting (kept_after_all (kept_after_all s.kept xs) ys) zs)
  all_fitting = fitting_more s.kept xs (ys ++ zs) ∙ ap (λ (l : List Record). front ++ l) (fitting_more (kept_after_all s.kept xs) ys zs)

  first_of : (n : ℕ) → n ≤ length (fitting (kept_after_all s.kept xs) ys)
      → take (length front + n) (fitting s.kept (xs ++ (ys ++ zs))) ≡ front ++ take n (fitting (kept_after_all s.kept xs) ys)
  first_of n le =
      let more = fitting (kept_after_all s.kept xs) ys in
      let rest = fitting (kept_after_all (kept_after_all s.kept xs) ys) zs in
      ap (take (length front + n)) all_fitting ∙ take-append-add front (more ++ rest) n ∙ ap (λ (l : List Record). front ++ l) (take-append-le n more rest le)

  behind : (least : ℕ) (image : List ℕ) → least ≤ length front → OpensWithFirst (with_records s xs) (before ++ spelled front) ys 0 image
      → OpensWithFirst s before (xs ++ (ys ++ zs)) least image
  behind least image few (n, some, le, opened, read) =
      let more = fitting (kept_after_all s.kept xs) ys in
      let rest = fitting (kept_after_all (kept_after_all s.kept xs) ys) zs in
      let first = first_of n le in (
        length front + n,
        omega arith,
        omega (arith, ap length all_fitting, length-append front (more ++ rest), length-append more rest),
        opened ∙ ap (λ (cs : List (List ℕ)). Ok cs) (append_assoc before (spelled front) (spelled (take n more)))
            ∙ ap (λ (cs : List (List ℕ)). Ok (before ++ cs)) (sym (spelled_more front (take n more)))
            ∙ ap (λ (rs : List Record). Ok (before ++ spelled rs)) (sym first),
        read ∙ ap (λ (k : Kept). Ok (kept_after_all k (take n more))) (sym (fitting_same s.kept xs))
            ∙ ap (λ (k : Kept). Ok k) (sym (after_more s.kept front (take n more)))
            ∙ ap (λ (rs : List Record). Ok (kept_after_all s.kept rs)) (sym first),
      )

  pub finds_behind : (least : ℕ) (o : Option Held) → least ≤ length front → FindsFirst (with_records s xs) (before ++ spelled front) ys 0 o
      → FindsFirst s before (xs ++ (ys ++ zs)) least o
  finds_behind least None few finds = tt
  finds_behind least (Some held) few finds = λ image found. behind least image few (finds image found)

-- ---- one record, in a store whose parts are these

-- one that isn't in place leaves all as it was
pub stored_still : (parts s : Stored) → parts ≡ s → (k : Kept) (spare : ℕ) (before : List (List ℕ)) (r : Record) (o : Option Held)
    → fits parts.kept r ≡ false → k ≡ cond (fits parts.kept r) (stepped parts.kept r) parts.kept → IsStored s before o
    → IsStored (record { journal = parts.journal; kept = k; spare = spare }) (before ++ spelled (fitting s.kept (r ∷ []))) o
stored_still parts s same k spare before r o unfit kept stored =
    let here : IsStored parts before o = subst (λ (x : Stored). IsStored x before o) (sym same) stored in
    let none : fitting s.kept (r ∷ []) ≡ [] = none_fits s.kept r (ap (λ (x : Stored). fits x.kept r) (sym same) ∙ unfit) in
    let all : before ++ spelled (fitting s.kept (r ∷ [])) ≡ before = ap (λ (rs : List Record). before ++ spelled rs) none ∙ append-nil before in
    let unchanged : k ≡ parts.kept = kept ∙ ap (λ (b : Bool). cond b (stepped parts.kept r) parts.kept) unfit in
    record {
      journal = subst (λ (cs : List (List ℕ)). HasContents parts.journal cs o) (sym all) here.journal;
      book = ap book_of all ∙ here.book ∙ ap (λ (x : Kept). Ok x) (sym unchanged);
    }

on_ok : {T E P Q : Type 0} (result : Result T E) → (P → Q) → OnOk result P → OnOk result Q
on_ok (Ok done) more so = more so
on_ok (Err e) more so = tt

-- one that is in place is the last one of the disk
pub stored_next : {T E : Type 0} (result : Result T E) (parts s : Stored) → parts ≡ s → (j : State) (k : Kept) (spare : ℕ) (before : List (List ℕ)) (r : Record)
    (content : List ℕ) (o now : Option Held) → fits parts.kept r ≡ true → k ≡ cond (fits parts.kept r) (stepped parts.kept r) parts.kept
    → content ≡ content_of r → record_of content ≡ Some r → IsStored s before o
    → ((contents : List (List ℕ)) → HasContents parts.journal contents o → OnOk result (HasContents j (contents ++ content ∷ []) now))
    → OnOk result (IsStored (record { journal = j; kept = k; spare = spare }) (before ++ spelled (fitting s.kept (r ∷ []))) now)
stored_next {T} {E} result parts s same j k spare before r content o now fit kept is read stored committed =
    let here : IsStored parts before o = subst (λ (x : Stored). IsStored x before o) (sym same) stored in
    let one : fitting s.kept (r ∷ []) ≡ r ∷ [] = one_fits s.kept r (ap (λ (x : Stored). fits x.kept r) (sym same) ∙ fit) in
    let all : before ++ spelled (fitting s.kept (r ∷ [])) ≡ before ++ content ∷ [] =
    ap (λ (rs : List Record). before ++ spelled rs) one ∙ ap (λ (c : List ℕ). before ++ c ∷ []) (sym is)
    in
    let next : k ≡ stepped parts.kept r = kept ∙ ap (λ (b : Bool). cond b (stepped parts.kept r) parts.kept) fit in
    let more = book_more before content parts.kept r here.book read fit in
    let makes : HasContents j (before ++ content ∷ []) now
    → IsStored (record { journal = j; kept = k; spare = spare }) (before ++ spelled (fitting s.kept (r ∷ []))) now =
    λ has. record {
      journal = subst (λ (cs : List (List ℕ)). HasContents j cs now) (sym all) has;
      book = ap book_of all ∙ more ∙ ap (λ (x : Kept). Ok x) (sym next);
    }
    in
    on_ok result makes (committed before here.journal)

-- and until its commit is done it is found there or isn't
pub finds_next : (parts s : Stored) → parts ≡ s → (before : List (List ℕ)) (r : Record) (content : List ℕ) (o now : Option Held) → fits parts.kept r ≡ true
    → content ≡ content_of r → record_of content ≡ Some r → IsStored s before o
    → ((contents : List (List ℕ)) → HasContents parts.journal contents o → FindsBeforeOrAfter parts.journal contents content now)
    → FindsFirst s before (r ∷ []) 0 now
finds_next parts s same before r content o now fit is read stored finds =
    let here : IsStored parts before o = subst (λ (x : Stored). IsStored x before o) (sym same) stored in
    let found : FindsBeforeOrAfter s.journal before (content_of r) now =
    subst (λ (x : Stored). FindsBeforeOrAfter x.journal before (content_of r) now) same
    (subst (λ (c : List ℕ). FindsBeforeOrAfter parts.journal before c now) is (finds before here.journal))
    in
    finds_one s before r now (ap (λ (x : Stored). fits x.kept r) (sym same) ∙ fit) (ap record_of (sym is) ∙ read) stored.book found
