-- A turn that is settled, and one that is refused.
use Rattle.std.specs.Prelude.{⊤}
use Rattle.std.proofs.Common.{◌≡◌, ℕ, ◌+◌, ◌-◌, ◌<◌, ◌≤◌, true, false, Bool, not, List, length, Option, Some, None, Ok, Err, refl, sym, ap, subst, ◌∙◌, arith}
use Rattle.std.proofs.lemmas.Bool.{true≢false}
use Rattle.std.proofs.lemmas.Bool.Decides.{nat_tests}
use Rattle.disk_core.specs.Disk.{Held}
use Rattle.session_book.specs.declared.record.Record.{Record}
use Rattle.checkpoint_journal.specs.Format.{most_records}
use Rattle.checkpoint_journal.specs.State.{State}
use Rattle.end_store.specs.declared.store.StoreStop.{StoreStop}
use Rattle.end_store.specs.declared.store.StoreStop.TheVariants as store
use Rattle.end_store.specs.Records.{fitting}
use Rattle.end_store.specs.Stored.{Stored, prepared, with_records, StepHasCause, StepLeaves}
use Rattle.end_store.proofs.Records.{fitting_few}
use Rattle.end_store.proofs.Found.{finds_none}
use Rattle.step_hub.specs.declared.stop.Stop.{Stop}
use Rattle.step_hub.specs.declared.stop.Stop.TheVariants as stop
use Rattle.step_hub.specs.declared.stop.StepError.{StepError}
use Rattle.step_hub.specs.declared.stop.StepError.TheVariants as error
use Rattle.step_hub.specs.Hubs.{Settles}
use Rattle.shared_store.specs.Settled.{stop_by, error_by}
use Rattle.shared_store.specs.Settling.{Stays, SettlesOnDisk}
use Rattle.shared_store.specs.Stops.{fits_journal}

limit : (n : ℕ) → most_records < n → 1048576 < n
unfolding most_records
limit n h = h

within : (n : ℕ) → n ≤ most_records → n ≤ 1048576
unfolding most_records
within n h = h

-- so many records, and no more than one turn may leave, pass the limit: the stop for want of room fits
full_fits : (j : State) (records wanted : ℕ) → j.records ≡ records → wanted ≤ 16384 → 1048576 < records + wanted → fits_journal (Some (stop.Full records wanted)) j ≡ true
full_fits j records wanted same few over = grind (arith, nat_tests)

module _ (rs : List Record) (before after : Stored) (going : before.journal.halted ≡ false) (wanted : ℕ) (all : wanted ≡ length rs) (few : length rs ≤ 16384) where
  module _ (held there : Option Held) (faults now : ℕ) where
    -- what is told of a refusal
    pub refused_settles : (T : Type 0) (e : StoreStop) → StepHasCause {T = ⊤} rs before after faults now (Err e) → StepLeaves {T = ⊤} before after held there (Err e)
        → Settles {T = T} (Err (error_by e)) (length rs) before.journal.records after.journal.records (stop_by e wanted) faults now
    refused_settles T store.StoreFault cause leaves = (refl, cause.2)
    refused_settles T (store.StoreFull records) cause leaves = (
      ap (λ (s : Stored). s.journal.records) leaves.0,
      cause.2,
      few,
      limit _ cause.1,
      ap (λ (r : ℕ). Some (stop.Full r wanted)) cause.2 ∙ ap (λ (w : ℕ). Some (stop.Full before.journal.records w)) all,
      cause.3,
    )
    refused_settles T store.Halted cause leaves = absurd (true≢false (sym cause.0 ∙ going))
    refused_settles T store.NoMemory cause leaves = (ap (λ (s : Stored). s.journal.records) leaves.0, refl, cause.2)

    -- the journal fits the stop
    pub refused_fits : (e : StoreStop) → StepHasCause {T = ⊤} rs before after faults now (Err e) → StepLeaves {T = ⊤} before after held there (Err e)
        → fits_journal (stop_by e wanted) after.journal ≡ true
    refused_fits store.StoreFault cause leaves = refl
    refused_fits (store.StoreFull records) cause leaves =
        full_fits after.journal records wanted (ap (λ (s : Stored). s.journal.records) leaves.0 ∙ sym cause.2) (omega (arith, all, few))
        (let over = limit _ cause.1 in omega (arith, all, over, cause.2))
    refused_fits store.Halted cause leaves = absurd (true≢false (sym cause.0 ∙ going))
    refused_fits store.NoMemory cause leaves = ap (λ (s : Stored). not s.journal.halted) leaves.0 ∙ ap (λ (b : Bool). not b) going

    -- what is told of a turn that was settled
    pub made_settles : {T : Type 0} (given : T) → StepHasCause {T = ⊤} rs before after faults now (Ok tt) → after ≡ with_records (prepared (length rs) before) rs
        → Settles (Ok given) (length rs) before.journal.records after.journal.records None faults now
    made_settles given cause state =
        let count : after.journal.records ≡ before.journal.records + length (fitting before.kept rs) = ap (λ (s : Stored). s.journal.records) state in
        let least = fitting_few before.kept rs in
        (omega (arith, count), omega (arith, count, least), few, within _ cause.1, refl, cause.2)

  pub made_fits : after ≡ with_records (prepared (length rs) before) rs → fits_journal None after.journal ≡ true
  made_fits state = ap (λ (s : Stored). not s.journal.halted) state ∙ ap (λ (b : Bool). not b) going

-- what had no stop has a journal whose disk didn't fail
pub is_running : (s : Option Stop) (j : State) → fits_journal s j ≡ true → s ≡ None → j.halted ≡ false
is_running s j fits none =
    let running : not j.halted ≡ true = subst (λ (o : Option Stop). fits_journal o j ≡ true) none fits in by j.halted running
  where
    by : (b : Bool) → not b ≡ true → b ≡ false
    by true h = absurd cc
    by false h = refl

-- The same of records and a store that are these in the end.
module _ (ls : List Record) (s : Stored) (rs : List Record) (before after : Stored) (faults now : ℕ) where
  pub settled_made : (stopped : Option Stop) → StepHasCause {T = ⊤} rs before after faults now (Ok tt) → after ≡ with_records (prepared (length rs) before) rs
      → rs ≡ ls → before ≡ s → length rs ≤ 16384 → stopped ≡ None
      → Settles {T = ⊤} (Ok tt) (length ls) s.journal.records after.journal.records stopped faults now
  settled_made stopped cause state all same few none =
      rw (none, sym same, sym all) (made_settles rs before after cause.0 (length rs) refl few None None faults now {T = ⊤} tt cause state)

  module _ (e : StoreStop) (wanted : ℕ) (held there : Option Held) (cause : StepHasCause {T = ⊤} rs before after faults now (Err e))
      (leaves : StepLeaves {T = ⊤} before after held there (Err e)) (running : s.journal.halted ≡ false) (same : before ≡ s) (wants : wanted ≡ length rs) (few : length rs ≤ 16384) where
    going : before.journal.halted ≡ false
    going = ap (λ (x : Stored). x.journal.halted) same ∙ running

    pub settled_refused : (T : Type 0) (stopped : Option Stop) (answer : StepError) → rs ≡ ls → stopped ≡ stop_by e wanted → answer ≡ error_by e
        → Settles {T = T} (Err answer) (length ls) s.journal.records after.journal.records stopped faults now
    settled_refused T stopped answer all stops told =
        rw (stops, told, sym same, sym all) (refused_settles rs before after going wanted wants few held there faults now T e cause leaves)

    pub fits_refused : (stopped : Option Stop) → stopped ≡ stop_by e wanted → fits_journal stopped after.journal ≡ true
    fits_refused stopped stops = rw stops (refused_fits rs before after going wanted wants few held there faults now e cause leaves)

module _ {D : Type 0} (holds : D → Option Held) (rs : List Record) (before after : Stored) (disk now : D) where
  stays_by : (T : Type 0) (e : StoreStop) → StepLeaves {T = ⊤} before after (holds disk) (holds now) (Err e) → Stays {T = T} before after (holds disk) (holds now) (Err (error_by e))
  stays_by T store.StoreFault leaves = tt
  stays_by T (store.StoreFull records) leaves = leaves
  stays_by T store.Halted leaves = leaves
  stays_by T store.NoMemory leaves = leaves

  -- what a refusal leaves on the disk
  pub refused_on_disk : (T : Type 0) (e : StoreStop) → StepLeaves {T = ⊤} before after (holds disk) (holds now) (Err e)
      → SettlesOnDisk {T = ⊤} holds rs before after disk now (Err error.StoreFault) → SettlesOnDisk {T = T} holds rs before after disk now (Err (error_by e))
  refused_on_disk T e leaves h = record {
    state = tt;
    refused = stays_by T e leaves;
    untouched = h.untouched;
    tells = h.tells;
    stored = λ contents stored. tt;
    crash = h.crash;
  }

-- where memory is wanting before anything is committed, the store and its disk are as before
pub unmade_on_disk : {D : Type 0} (holds : D → Option Held) (rs : List Record) (s : Stored) (d : D) (T : Type 0)
    → SettlesOnDisk {T = T} holds rs s s d d (Err error.NoMemory)
unmade_on_disk holds rs s d T = record {
  state = tt;
  refused = (refl, refl);
  untouched = λ none. refl;
  tells = refl;
  stored = λ contents stored. tt;
  crash = λ contents stored. let none : s.journal.records - s.journal.records ≡ 0 = omega arith in finds_none s contents rs (s.journal.records - s.journal.records) (holds d) none stored;
}
