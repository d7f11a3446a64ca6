-- Several records, one behind the other.
use Rattle.std.proofs.Common.{◌≡◌, ℕ, ◌+◌, ◌-◌, ◌<◌, ◌≤◌, true, false, Bool, cond, List, [], ◌∷◌, ◌++◌, length, take, drop, get_or, min, Option, Some, None, Ok, refl, sym, ap, subst, ◌∙◌, arith, append_assoc}
use Rattle.std.specs.Prelude.{Err}
use Rattle.std.proofs.lemmas.List.{append-nil, take_more, take-append-drop, length-append}
use Rattle.std.proofs.Math.Seq.{take-length}
use Rattle.disk_core.specs.Disk.{Held}
use Rattle.session_book.specs.declared.record.Record.{Record}
use Rattle.session_book.specs.Books.{Kept, fits, stepped}
use Rattle.checkpoint_journal.specs.State.{State}
use Rattle.checkpoint_journal.specs.Answers.{StopHasCause, SomeHaveCause}
use Rattle.checkpoint_journal.specs.declared.journal.JournalStop.{JournalStop}
use Rattle.checkpoint_journal.proofs.Same.{finds_contents}
use Rattle.checkpoint_journal.proofs.Several.{stopped_cause, stopped_records}
use Rattle.end_store.specs.Records.{kept_after_all, fitting, spelled}
use Rattle.end_store.specs.Stored.{Stored, with_record, with_records, IsStored, FindsFirst}
use Rattle.end_store.proofs.Records.{after_more, fitting_more, fitting_same, one_fits, none_fits, after_one}
use Rattle.end_store.proofs.Found.{spelled_more, reads_book, finds_none, finds_behind}

-- ---- the store after some records

-- so many were committed, of so many, and this is the book then
abbrev after_some : Stored → ℕ → Kept → ℕ → Stored
after_some s count k used =
    record { journal = record s.journal { records = s.journal.records + count; spare = s.journal.spare - count }; kept = k; spare = s.spare - used }

pub with_none : (s : Stored) → s ≡ with_records s []
unfolding fitting kept_after_all
with_none s =
    let records : s.journal.records ≡ s.journal.records + 0 = omega arith in
    let spare : s.journal.spare ≡ s.journal.spare - 0 = omega arith in
    let room : s.spare ≡ s.spare - 0 = omega arith in
    ap (λ (n : ℕ). record s { journal = record s.journal { records = n } }) records
    ∙ ap (λ (n : ℕ). record s { journal = record s.journal { records = s.journal.records + 0; spare = n } }) spare
    ∙ ap (λ (n : ℕ). record s { journal = record s.journal { records = s.journal.records + 0; spare = s.journal.spare - 0 }; spare = n }) room

one_of : (s : Stored) (count used : ℕ) (k : Kept) (r : Record) (b : Bool) → fits k r ≡ b
    → with_record (after_some s count k used) r ≡ after_some s (count + length (fitting k (r ∷ []))) (kept_after_all k (r ∷ [])) (used + 1)
one_of s count used k r true fit =
    let one : count + 1 ≡ count + length (fitting k (r ∷ [])) = ap (λ (l : List Record). count + length l) (sym (one_fits k r fit)) in
    let after : stepped k r ≡ kept_after_all k (r ∷ []) = sym (after_one k r ∙ ap (λ (b : Bool). cond b (stepped k r) k) fit) in
    let j : ℕ → ℕ → State = λ records spare. record s.journal { records = records; spare = spare } in
    let next : Stored = record { journal = j (s.journal.records + count + 1) (s.journal.spare - count - 1); kept = stepped k r; spare = s.spare - used - 1 } in
    let still : Stored = record (after_some s count k used) { spare = s.spare - used - 1 } in
    let records : s.journal.records + count + 1 ≡ s.journal.records + (count + 1) = omega arith in
    let left : s.journal.spare - count - 1 ≡ s.journal.spare - (count + 1) = omega arith in
    let room : s.spare - used - 1 ≡ s.spare - (used + 1) = omega arith in
    ap (λ (b : Bool). cond b next still) fit
    ∙ ap (λ (n : ℕ). record { journal = j n (s.journal.spare - count - 1); kept = stepped k r; spare = s.spare - used - 1 }) records
    ∙ ap (λ (n : ℕ). record { journal = j (s.journal.records + (count + 1)) n; kept = stepped k r; spare = s.spare - used - 1 }) left
    ∙ ap (λ (n : ℕ). record { journal = j (s.journal.records + (count + 1)) (s.journal.spare - (count + 1)); kept = stepped k r; spare = n }) room
    ∙ ap (λ (n : ℕ). after_some s n (stepped k r) (used + 1)) one ∙ ap (λ (x : Kept). after_some s (count + length (fitting k (r ∷ []))) x (used + 1)) after
one_of s count used k r false unfit =
    let none : count + 0 ≡ count + length (fitting k (r ∷ [])) = ap (λ (l : List Record). count + length l) (sym (none_fits k r unfit)) in
    let same : count ≡ count + length (fitting k (r ∷ [])) = omega (arith, none) in
    let after : k ≡ kept_after_all k (r ∷ []) = sym (after_one k r ∙ ap (λ (b : Bool). cond b (stepped k r) k) unfit) in
    let next : Stored = record {
      journal = record s.journal { records = s.journal.records + count + 1; spare = s.journal.spare - count - 1 };
      kept = stepped k r;
      spare = s.spare - used - 1;
    } in
    let still : Stored = record (after_some s count k used) { spare = s.spare - used - 1 } in
    let room : s.spare - used - 1 ≡ s.spare - (used + 1) = omega arith in
    ap (λ (b : Bool). cond b next still) unfit ∙ ap (λ (n : ℕ). record (after_some s count k used) { spare = n }) room
    ∙ ap (λ (n : ℕ). after_some s n k (used + 1)) same ∙ ap (λ (x : Kept). after_some s (count + length (fitting k (r ∷ []))) x (used + 1)) after

pub with_more : (s : Stored) (xs : List Record) (r : Record) → with_record (with_records s xs) r ≡ with_records s (xs ++ r ∷ [])
with_more s xs r =
    let k = kept_after_all s.kept xs in
    let count : length (fitting s.kept (xs ++ r ∷ [])) ≡ length (fitting s.kept xs) + length (fitting k (r ∷ [])) =
    ap length (fitting_more s.kept xs (r ∷ [])) ∙ length-append (fitting s.kept xs) (fitting k (r ∷ []))
    in
    one_of s (length (fitting s.kept xs)) (length xs) k r (fits k r) refl
    ∙ ap (λ (n : ℕ). after_some s n (kept_after_all k (r ∷ [])) (length xs + 1)) (sym count)
    ∙ ap (λ (x : Kept). after_some s (length (fitting s.kept (xs ++ r ∷ []))) x (length xs + 1)) (sym (after_more s.kept xs (r ∷ [])))
    ∙ ap (λ (n : ℕ). after_some s (length (fitting s.kept (xs ++ r ∷ []))) (kept_after_all s.kept (xs ++ r ∷ [])) n) (sym (length-append xs (r ∷ [])))

-- one record more
pub state_more : (s l new : Stored) (rs : List Record) (i : ℕ) (d : Record) → i < length rs → l ≡ with_records s (take i rs)
    → new ≡ with_record l (get_or rs i d) → new ≡ with_records s (take (i + 1) rs)
state_more s l new rs i d lt state is =
    is ∙ ap (λ (x : Stored). with_record x (get_or rs i d)) state ∙ with_more s (take i rs) (get_or rs i d) ∙ ap (with_records s) (sym (take_more rs i d lt))

contents_more : (s : Stored) (before : List (List ℕ)) (rs : List Record) (i : ℕ) (d : Record) (k : Kept) → i < length rs → k ≡ kept_after_all s.kept (take i rs)
    → (before ++ spelled (fitting s.kept (take i rs))) ++ spelled (fitting k (get_or rs i d ∷ [])) ≡ before ++ spelled (fitting s.kept (take (i + 1) rs))
contents_more s before rs i d k lt is =
    let xs = take i rs in
    let r = get_or rs i d in
    append_assoc before (spelled (fitting s.kept xs)) (spelled (fitting k (r ∷ [])))
    ∙ ap (λ (x : Kept). before ++ (spelled (fitting s.kept xs) ++ spelled (fitting x (r ∷ [])))) is
    ∙ ap (λ (cs : List (List ℕ)). before ++ cs) (sym (spelled_more (fitting s.kept xs) (fitting (kept_after_all s.kept xs) (r ∷ []))))
    ∙ ap (λ (l : List Record). before ++ spelled l) (sym (fitting_more s.kept xs (r ∷ [])))
    ∙ ap (λ (l : List Record). before ++ spelled (fitting s.kept l)) (sym (take_more rs i d lt))

pub stored_more : (s l new : Stored) (before : List (List ℕ)) (rs : List Record) (i : ℕ) (d : Record) (o : Option Held) → i < length rs
    → l ≡ with_records s (take i rs)
    → IsStored new ((before ++ spelled (fitting s.kept (take i rs))) ++ spelled (fitting l.kept (get_or rs i d ∷ []))) o
    → IsStored new (before ++ spelled (fitting s.kept (take (i + 1) rs))) o
stored_more s l new before rs i d o lt state stored =
    subst (λ (cs : List (List ℕ)). IsStored new cs o) (contents_more s before rs i d l.kept lt (ap (λ (x : Stored). x.kept) state)) stored

-- ---- the commit of one of them stopped

parts : (rs : List Record) (i : ℕ) (d : Record) → i < length rs → take i rs ++ (get_or rs i d ∷ [] ++ drop (i + 1) rs) ≡ rs
parts rs i d lt =
    sym (append_assoc (take i rs) (get_or rs i d ∷ []) (drop (i + 1) rs)) ∙ ap (λ (l : List Record). l ++ drop (i + 1) rs) (sym (take_more rs i d lt))
    ∙ take-append-drop (i + 1) rs

pub finds_stopped : (T : Type 0) (s l : Stored) (after : State) (before : List (List ℕ)) (rs : List Record) (i : ℕ) (d : Record) (o : Option Held) (faults now : ℕ)
    (e : JournalStop) → i < length rs → l ≡ with_records s (take i rs) → StopHasCause {T = T} l.journal after faults now (Err e)
    → FindsFirst l (before ++ spelled (fitting s.kept (take i rs))) (get_or rs i d ∷ []) 0 o
    → FindsFirst s before rs (after.records - s.journal.records) o
finds_stopped T s l after before rs i d o faults now e lt state cause finds =
    let count = length (fitting s.kept (take i rs)) in
    let records : after.records ≡ s.journal.records + count = stopped_records T l.journal after faults now e cause ∙ ap (λ (x : Stored). x.journal.records) state in
    let few : after.records - s.journal.records ≤ count = omega arith in
    let here = subst (λ (x : Stored). FindsFirst x (before ++ spelled (fitting s.kept (take i rs))) (get_or rs i d ∷ []) 0 o) state finds in
    subst (λ (l : List Record). FindsFirst s before l (after.records - s.journal.records) o) (parts rs i d lt)
    (finds_behind s before (take i rs) (get_or rs i d ∷ []) (drop (i + 1) rs) (after.records - s.journal.records) o few here)

-- one that is in place comes behind those that were committed
pub less_stopped : (s l : Stored) (rs : List Record) (i : ℕ) (d : Record) → i < length rs → l ≡ with_records s (take i rs) → fits l.kept (get_or rs i d) ≡ true
    → length (fitting s.kept (take i rs)) < length (fitting s.kept rs)
less_stopped s l rs i d lt state fit =
    let xs = take i rs in
    let r = get_or rs i d in
    let k = kept_after_all s.kept xs in
    let one : fitting k (r ∷ []) ≡ r ∷ [] = one_fits k r (ap (λ (x : Stored). fits x.kept r) (sym state) ∙ fit) in
    let rest = fitting (kept_after_all k (r ∷ [])) (drop (i + 1) rs) in
    let all : length (fitting s.kept rs) ≡ length (fitting s.kept xs ++ (r ∷ [] ++ rest)) =
    ap (λ (l : List Record). length (fitting s.kept l)) (sym (parts rs i d lt)) ∙ ap length (fitting_more s.kept xs (r ∷ [] ++ drop (i + 1) rs))
    ∙ ap (λ (l : List Record). length (fitting s.kept xs ++ l)) (fitting_more k (r ∷ []) (drop (i + 1) rs))
    ∙ ap (λ (l : List Record). length (fitting s.kept xs ++ (l ++ rest))) one
    in
    let sum = length-append (fitting s.kept xs) (r ∷ [] ++ rest) in
    omega (arith, all, sum)

pub cause_stopped : (T U : Type 0) (s l : Stored) (after : State) (rs : List Record) (i : ℕ) (d : Record) (faults now : ℕ) (e : JournalStop) → i < length rs
    → s.journal.halted ≡ false → l ≡ with_records s (take i rs) → fits l.kept (get_or rs i d) ≡ true → StopHasCause {T = T} l.journal after faults now (Err e)
    → SomeHaveCause {T = U} (length (fitting s.kept rs)) s.journal after faults now (Err e)
cause_stopped T U s l after rs i d faults now e lt live state fit cause =
    stopped_cause T U s.journal l.journal after (length (fitting s.kept (take i rs))) (length (fitting s.kept rs)) faults now e (ap (λ (x : Stored). x.journal) state) live
    (less_stopped s l rs i d lt state fit) cause

-- ---- none is in place

fits_or_not : (k : Kept) (r : Record) (b : Bool) → fits k r ≡ b → fitting k (r ∷ []) ≡ [] → fits k r ≡ false
fits_or_not k r true fit none = let one = ap length (one_fits k r fit) in let zero = ap length none in absurd (omega (arith, one, zero))
fits_or_not k r false fit none = fit

no_length : (rs : List Record) → length rs ≡ 0 → rs ≡ []
no_length [] is = refl
no_length (r ∷ rs) is = absurd (omega (arith, is))

-- neither was one of those before it, nor is this one
pub none_more : (s l : Stored) (rs : List Record) (i : ℕ) (d : Record) → i < length rs → l ≡ with_records s (take i rs) → fitting s.kept (take (i + 1) rs) ≡ []
    → (fitting s.kept (take i rs) ≡ []) × (fits l.kept (get_or rs i d) ≡ false)
none_more s l rs i d lt state none =
    let xs = take i rs in
    let r = get_or rs i d in
    let k = kept_after_all s.kept xs in
    let both : fitting s.kept xs ++ fitting k (r ∷ []) ≡ [] =
    sym (ap (fitting s.kept) (take_more rs i d lt) ∙ fitting_more s.kept xs (r ∷ [])) ∙ none
    in
    let sum = length-append (fitting s.kept xs) (fitting k (r ∷ [])) in
    let zero = ap length both in (
      no_length (fitting s.kept xs) (omega (arith, sum, zero)),
      ap (λ (x : Stored). fits x.kept r) state ∙ fits_or_not k r (fits k r) refl (no_length (fitting k (r ∷ [])) (omega (arith, sum, zero))),
    )

-- ---- all were committed

pub finds_all : (s new : Stored) (before : List (List ℕ)) (rs : List Record) (o : Option Held) (least : ℕ) → least ≤ length (fitting s.kept rs)
    → new ≡ with_records s rs → IsStored new (before ++ spelled (fitting s.kept rs)) o → FindsFirst s before rs least o
finds_all s new before rs None least le state stored = tt
finds_all s new before rs (Some held) least le state stored = λ image found.
    let all = fitting s.kept rs in
    let here = subst (λ (x : Stored). IsStored x (before ++ spelled all) (Some held)) state stored in
    let opened = finds_contents (with_records s rs).journal (before ++ spelled all) (Some held) here.journal image found in
    let read = reads_book s.journal.kind s.journal.number image (before ++ spelled all) (kept_after_all s.kept rs) opened here.book in (
      length all,
      le,
      omega arith,
      opened ∙ ap (λ (l : List Record). Ok (before ++ spelled l)) (sym (take-length all)),
      read ∙ ap (λ (k : Kept). Ok k) (sym (fitting_same s.kept rs)) ∙ ap (λ (l : List Record). Ok (kept_after_all s.kept l)) (sym (take-length all)),
    )

-- none were committed yet
pub nothing_more : (s : Stored) (before : List (List ℕ)) → before ++ spelled (fitting s.kept []) ≡ before
unfolding fitting
nothing_more s before = append-nil before

-- ---- the records of a step

-- the count of records that there is room for is theirs
pub counted : (n count records most : ℕ) → count ≡ min n 4294967295 → most ≡ 1048576 → records + count ≤ most → count ≡ n
counted n count records most is size room = omega arith

-- a step without records has none that is in place, and wants no room
pub none_to_commit : (k : Kept) (rs : List Record) → rs ≡ [] → fitting k rs ≡ []
unfolding fitting
none_to_commit k rs none = ap (fitting k) none

pub none_wanted : (rs : List Record) (count spare : ℕ) → count ≡ min (length rs) 4294967295 → rs ≡ [] → count ≤ spare
none_wanted rs count spare is none =
    let zero : length rs ≡ 0 = ap length none in
    omega arith

pub finds_refused : (s after : Stored) (before : List (List ℕ)) (rs : List Record) (o now : Option Held)
    → after ≡ record s { journal = record s.journal { spare = after.journal.spare } } → now ≡ o → IsStored s before o
    → FindsFirst s before rs (after.journal.records - s.journal.records) now
finds_refused s after before rs o now same held stored =
    let records : after.journal.records ≡ s.journal.records = ap (λ (x : Stored). x.journal.records) same in
    subst (λ (h : Option Held). FindsFirst s before rs (after.journal.records - s.journal.records) h) (sym held)
    (finds_none s before rs (after.journal.records - s.journal.records) o (omega arith) stored)
