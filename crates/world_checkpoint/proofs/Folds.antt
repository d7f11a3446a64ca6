-- Records that are committed to a store, as the definitions count them.
use Rattle.std.proofs.Common.{◌≡◌, ℕ, ◌+◌, ◌-◌, ◌<◌, ◌≤◌, Bool, true, false, cond, List, [], ◌∷◌, ◌++◌, length, take, drop, Option, Some, None, Ok, Err, refl, sym, ap, subst, ◌∙◌, arith}
use Rattle.std.specs.Prelude.{⊤, nat_le, nat_lt, Result}
use Rattle.std.proofs.lemmas.Bool.Decides.{nat_tests}
use Rattle.std.proofs.lemmas.List.{take-append-drop, take-take, length-append, append-nil}
use Rattle.std.proofs.Math.Seq.{take-length}
use Rattle.session_book.specs.declared.record.Record.{Record}
use Rattle.session_book.specs.Books.{Kept, fits, stepped}
use Rattle.end_store.specs.Records.{kept_after_all, fitting}
use Rattle.disk_core.specs.Disk.{Held}
use Rattle.end_store.specs.declared.store.StoreStop.{StoreStop}
use Rattle.end_store.specs.declared.store.StoreStop.TheVariants as stop
use Rattle.end_store.specs.Stored.{Stored, prepared, with_records, IsAsBefore, StepHasCause, StepLeaves}
use Rattle.checkpoint_journal.proofs.Parts.{most_is}
use Rattle.end_store.proofs.Records.{after_more, fitting_more, fitting_same, fitting_few}
use Rattle.world_model.specs.declared.stop.StopAt.{StopAt}
use Rattle.world_model.specs.World.{Checkpoint, IsFull, IsCut, IsWhole, recorded, recorded_all, with_stop, kept_by, commits_by, commits}
use Rattle.world_checkpoint.specs.declared.commits.CommitStop.{CommitStop}
use Rattle.world_checkpoint.specs.declared.commits.CommitStop.TheVariants.{Full, Cut, NoMemory, Differs}
use Rattle.world_checkpoint.specs.Stores.{seen, IsCutOff, CommitsTo, HasSame, HasMore, HasFirst, HasNoRoom, CommitsAll, CutsOff, CutsLast}

-- ---- what is recorded

abbrev after : Checkpoint → List Record → Checkpoint
after k rs = record k { records = k.records + length (fitting k.book rs); book = kept_after_all k.book rs }

one_more : (b : Bool) (k : Checkpoint) (r : Record) (rs : List Record)
    → after (cond b (record k { records = k.records + 1; book = stepped k.book r }) k) rs
    ≡ record k {
      records = k.records + length (cond b (r ∷ fitting (stepped k.book r) rs) (fitting k.book rs));
      book = kept_after_all (cond b (stepped k.book r) k.book) rs;
    }
one_more true k r rs =
    let n : k.records + 1 + length (fitting (stepped k.book r) rs) ≡ k.records + length (r ∷ fitting (stepped k.book r) rs) = omega arith in
    ap (λ (n : ℕ). record k { records = n; book = kept_after_all (stepped k.book r) rs }) n
one_more false k r rs = refl

all_recorded : (k : Checkpoint) (rs : List Record) → recorded_all k rs ≡ after k rs
unfolding recorded_all fitting kept_after_all
all_recorded k [] = let n : k.records ≡ k.records + 0 = omega arith in ap (λ (n : ℕ). record k { records = n }) n
all_recorded k (r ∷ rs) = all_recorded (recorded k r) rs ∙ one_more (fits k.book r) k r rs

-- a store that has these more is the checkpoint that recorded them
pub recorded_is : (stop : Option StopAt) (old new : Stored) (rs : List Record) → HasMore rs old new → recorded_all (seen stop old) rs ≡ seen stop new
recorded_is stop old new rs more =
    all_recorded (seen stop old) rs ∙ rw (more.records, more.kept) refl

-- ---- whether there is room

room : (k : Checkpoint) (rs : List Record) → k.records + length rs ≤ 1048576 → commits k rs ≡ commits_by k rs k.stop
unfolding commits
room k rs le =
    let fits_in : nat_lt 1048576 (k.records + length rs) ≡ false = grind (arith, nat_tests) in
    ap (λ (t : Bool). cond t (IsFull k.records) (commits_by k rs k.stop)) fits_in

no_room : (k : Checkpoint) (rs : List Record) → 1048576 < k.records + length rs → commits k rs ≡ IsFull k.records
unfolding commits
no_room k rs lt =
    let past : nat_lt 1048576 (k.records + length rs) ≡ true = grind (arith, nat_tests) in
    ap (λ (t : Bool). cond t (IsFull k.records) (commits_by k rs k.stop)) past

same_seen : (stop : Option StopAt) (old new : Stored) → HasSame old new → seen stop new ≡ seen stop old
same_seen stop old new same = rw (same.records, same.kept) refl

refused : (stop : Option StopAt) (old new : Stored) (records : ℕ) (rs : List Record) → HasNoRoom records rs old new
    → (commits (seen stop old) rs ≡ IsFull records) × (seen stop new ≡ seen stop old)
refused stop old new records rs none =
    (no_room (seen stop old) rs none.past ∙ ap IsFull (sym none.told), same_seen stop old new none.same)

-- ---- what a commit answers

module _ (old new : Stored) (rs : List Record) where
  -- where no stop is armed
  pub committed_free : (result : Result ⊤ CommitStop) (stop : Option StopAt) → stop ≡ None → CommitsAll result rs old new
      → CommitsTo result (commits (seen stop old) rs) (seen stop old) (seen stop new)
  unfolding commits_by
  committed_free (Ok done) stop is (le, more) =
      room (seen stop old) rs le ∙ ap (commits_by (seen stop old) rs) is ∙ ap IsWhole (recorded_is stop old new rs more)
  committed_free (Err (Full records)) stop is none = refused stop old new records rs none
  committed_free (Err Cut) stop is never = absurd never
  committed_free (Err NoMemory) stop is same = same_seen stop old new same
  committed_free (Err Differs) stop is never = absurd never

  -- before the stop
  pub committed_before : (stop : Option StopAt) (s : StopAt) (left : ℕ) → stop ≡ Some s → length rs < s.commit → left ≡ s.commit - length rs
      → CommitsAll (Ok tt) rs old new
      → CommitsTo (Ok tt) (commits (seen stop old) rs) (seen stop old) (seen (Some (record s { commit = left })) new)
  unfolding commits_by
  committed_before stop s left is lt count (le, more) =
      let above : nat_le s.commit (length rs) ≡ false = grind (arith, nat_tests) in
      let next : Option StopAt = Some (record s { commit = s.commit - length rs }) in
      let k = seen stop old in
      room k rs le ∙ ap (commits_by k rs) is
      ∙ ap (λ (t : Bool). cond t (IsCut (recorded_all k (take (kept_by s) rs))) (IsWhole (with_stop next (recorded_all k rs)))) above
      ∙ ap (λ (c : Checkpoint). IsWhole (with_stop next c)) (recorded_is stop old new rs more)
      ∙ ap (λ (n : ℕ). IsWhole (seen (Some (record s { commit = n })) new)) (sym count)

  -- or where they weren't committed before it
  pub committed_not : (e : CommitStop) (stop : Option StopAt) → CommitsAll (Err e) rs old new
      → CommitsTo (Err e) (commits (seen stop old) rs) (seen stop old) (seen stop new)
  committed_not (Full records) stop none = refused stop old new records rs none
  committed_not Cut stop never = absurd never
  committed_not NoMemory stop same = same_seen stop old new same
  committed_not Differs stop never = absurd never

  -- a stop is reached amid them
  cut_at : (stop : Option StopAt) (s : StopAt) → stop ≡ Some s → s.commit ≤ length rs → old.journal.records + length rs ≤ 1048576
      → commits (seen stop old) rs ≡ IsCut (recorded_all (seen stop old) (take (kept_by s) rs))
  unfolding commits_by
  cut_at stop s is reached le =
      let within : nat_le s.commit (length rs) ≡ true = grind (arith, nat_tests) in
      let next : Option StopAt = Some (record s { commit = s.commit - length rs }) in
      let k = seen stop old in
      room k rs le ∙ ap (commits_by k rs) is
      ∙ ap (λ (t : Bool). cond t (IsCut (recorded_all k (take (kept_by s) rs))) (IsWhole (with_stop next (recorded_all k rs)))) within

  -- at the stop
  pub committed_at : (e : CommitStop) (stop : Option StopAt) (s : StopAt) → stop ≡ Some s → s.commit ≤ length rs → CutsOff e rs (take (kept_by s) rs) old new
      → CommitsTo (Err e) (commits (seen stop old) rs) (seen stop old) (seen stop new)
  committed_at (Full records) stop s is reached none = refused stop old new records rs none
  committed_at NoMemory stop s is reached same = same_seen stop old new same
  committed_at Cut stop s is reached (le, more) = cut_at stop s is reached le ∙ ap IsCut (recorded_is stop old new (take (kept_by s) rs) more)
  committed_at Differs stop s is reached (le, same) = (subst IsCutOff (sym (cut_at stop s is reached le)) tt, same_seen stop old new same)

-- ---- the last record before a stop, behind the others

more_behind : (xs ys : List Record) (s t u : Stored) → HasMore xs s t → HasMore ys t u → HasMore (xs ++ ys) s u
more_behind xs ys s t u first last =
    let all : length (fitting s.kept (xs ++ ys)) ≡ length (fitting s.kept xs) + length (fitting (kept_after_all s.kept xs) ys) =
    ap length (fitting_more s.kept xs ys) ∙ length-append (fitting s.kept xs) (fitting (kept_after_all s.kept xs) ys)
    in
    let same : length (fitting t.kept ys) ≡ length (fitting (kept_after_all s.kept xs) ys) = ap (λ (k : Kept). length (fitting k ys)) first.kept in
    let one = first.records in
    let other = last.records in
    record {
      records = omega arith;
      kept = last.kept ∙ ap (λ (k : Kept). kept_after_all k ys) first.kept ∙ sym (after_more s.kept xs ys);
    }

first_all : (rs : List Record) (s t : Stored) → (first : HasFirst rs s t) → t.journal.records ≡ s.journal.records + length (fitting s.kept rs)
    → HasMore rs s t
first_all rs s t first is =
    let told = first.records in
    let all : first.count ≡ length (fitting s.kept rs) = omega arith in
    record {
      records = is;
      kept = first.kept ∙ ap (λ (n : ℕ). kept_after_all s.kept (take n (fitting s.kept rs))) all
          ∙ ap (kept_after_all s.kept) (take-length (fitting s.kept rs)) ∙ fitting_same s.kept rs;
    }

first_none : (rs : List Record) (s t : Stored) → (first : HasFirst rs s t) → t.journal.records ≡ s.journal.records → HasMore [] s t
unfolding fitting kept_after_all
first_none rs s t first is =
    let told = first.records in
    let none : first.count ≡ 0 = omega arith in
    record {
      records = omega arith;
      kept = first.kept ∙ ap (λ (n : ℕ). kept_after_all s.kept (take n (fitting s.kept rs))) none;
    }

pub one_at_most : (kept : Bool) (k : Kept) (last : List Record) → length last ≤ 1 → cond kept (length (fitting k last)) 0 ≤ 1
one_at_most true k last one = let few = fitting_few k last in omega arith
one_at_most false k last one = omega arith

-- the last one is committed where it is kept
pub cuts_last : (kept : Bool) (last : List Record) (old new : Stored) → HasFirst last old new
    → new.journal.records ≡ old.journal.records + cond kept (length (fitting old.kept last)) 0 → CutsLast kept last old new
cuts_last true last old new first records = first_all last old new first records
cuts_last false last old new first records = first_none last old new first (omega (arith, records))

-- and the others before it
pub cuts_off : (kept : Bool) (commit : ℕ) (rs before last : List Record) (old mid new : Stored)
    → before ≡ take (commit - 1) (take commit rs) → last ≡ drop (commit - 1) (take commit rs) → HasMore before old mid → CutsLast kept last mid new
    → HasMore (take (cond kept commit (commit - 1)) rs) old new
cuts_off true commit rs before last old mid new front back first done =
    let all : before ++ last ≡ take commit rs =
    ap (λ (l : List Record). l ++ last) front ∙ ap (λ (l : List Record). take (commit - 1) (take commit rs) ++ l) back ∙ take-append-drop (commit - 1) (take commit rs)
    in
    subst (λ (l : List Record). HasMore l old new) all (more_behind before last old mid new first done)
cuts_off false commit rs before last old mid new front back first done =
    let all : before ++ [] ≡ take (commit - 1) rs = append-nil before ∙ front ∙ take-take (commit - 1) commit rs (omega arith) in
    subst (λ (l : List Record). HasMore l old new) all (more_behind before [] old mid new first done)

-- behind a copy
pub more_of_copy : (rs : List Record) (s t u : Stored) → HasMore [] s t → HasMore rs t u → HasMore rs s u
more_of_copy rs s t u copy more = more_behind [] rs s t u copy more

-- ---- what the store answers

pub whole_is : (old new : Stored) (rs : List Record) (n : ℕ) → new ≡ with_records (prepared n old) rs → HasMore rs old new
whole_is old new rs n is = record {
  records = ap (λ (s : Stored). s.journal.records) is;
  kept = ap (λ (s : Stored). s.kept) is;
}

-- room was made behind them
pub with_room : (old mid new : Stored) (rs : List Record) (n m : ℕ) → mid ≡ with_records (prepared n old) rs → new ≡ prepared m mid → HasMore rs old new
with_room old mid new rs n m is next = record {
  records = ap (λ (s : Stored). s.journal.records) next ∙ ap (λ (s : Stored). s.journal.records) is;
  kept = ap (λ (s : Stored). s.kept) next ∙ ap (λ (s : Stored). s.kept) is;
}

as_before : (old new : Stored) (held now : Option Held) → IsAsBefore old new held now → HasSame old new
as_before old new held now (is, disk) = record {
  records = ap (λ (s : Stored). s.journal.records) is;
  kept = ap (λ (s : Stored). s.kept) is;
}

full_told : (old new : Stored) (rs : List Record) (records faults later : ℕ) (held now : Option Held)
    → StepHasCause {T = ⊤} rs old new faults later (Err (stop.StoreFull records)) → StepLeaves {T = ⊤} old new held now (Err (stop.StoreFull records))
    → HasNoRoom records rs old new
full_told old new rs records faults later held now (on, past, told, same) leaves = record {
  past = omega (arith, past, most_is);
  told = told;
  same = as_before old new held now leaves;
}

pub full_is : (old new : Stored) (rs : List Record) (f : StoreStop) (records faults later : ℕ) (held now : Option Held) → f ≡ stop.StoreFull records
    → StepHasCause {T = ⊤} rs old new faults later (Err f) → StepLeaves {T = ⊤} old new held now (Err f) → HasNoRoom records rs old new
full_is old new rs f records faults later held now is cause leaves =
    full_told old new rs records faults later held now (subst (λ (e : StoreStop). StepHasCause {T = ⊤} rs old new faults later (Err e)) is cause)
    (subst (λ (e : StoreStop). StepLeaves {T = ⊤} old new held now (Err e)) is leaves)

pub same_is : (old new : Stored) (f : StoreStop) (held now : Option Held) → f ≡ stop.NoMemory → StepLeaves {T = ⊤} old new held now (Err f) → HasSame old new
same_is old new f held now is leaves =
    as_before old new held now (subst (λ (e : StoreStop). StepLeaves {T = ⊤} old new held now (Err e)) is leaves)
