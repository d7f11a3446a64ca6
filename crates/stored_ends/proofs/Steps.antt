-- A step that was lent a store and its disk as a ledger.
use Rattle.std.proofs.Common.{◌≡◌, ℕ, ◌-◌, true, false, List, Option, Result, Ok, Err, refl, sym, ap, subst, ◌∙◌, MutBor, arith}
use Rattle.std.proofs.lemmas.Bool.{true≢false}
use Rattle.disk_core.specs.Disk.{Held}
use Rattle.session_book.specs.declared.record.Record.{Record}
use Rattle.checkpoint_journal.specs.State.{HasRoom}
use Rattle.step_ledger.specs.declared.ledger.StepFault.{StepFault}
use Rattle.step_ledger.specs.declared.ledger.StepFault.TheVariants as fault
use Rattle.step_ledger.specs.Committing.{Commits}
use Rattle.end_store.specs.declared.on_disk.OnDisk.{OnDisk}
use Rattle.end_store.specs.declared.store.StoreStop.{StoreStop}
use Rattle.end_store.specs.declared.store.StoreStop.TheVariants as stop
use Rattle.end_store.specs.Stored.{Stored, IsStored, FindsFirst}
use Rattle.end_store.specs.Lent.{CommitsOnDisk}
use Rattle.end_store.proofs.Found.{finds_none}
use Rattle.stored_ends.specs.Steps.{StepsOnDisk, stops_of}

module _ {D : Type 0} (holds : D → Option Held) (reach calls_left faults : D → ℕ) (records : List Record) where
  found : (s : Stored) (d : D) (contents : List (List ℕ)) → IsStored s contents (holds d) → FindsFirst s contents records (s.journal.records - s.journal.records) (holds d)
  found s d contents stored = let none : s.journal.records - s.journal.records ≡ 0 = omega arith in finds_none s contents records (s.journal.records - s.journal.records) (holds d) none stored

  -- the disk failed at an earlier call
  pub halted_step : (T : Type 0) (s : Stored) (d : D) → s.journal.halted ≡ true → StepsOnDisk {T = T} holds reach calls_left faults records s s d d (Err stop.Halted)
  halted_step T s d is = record {
    room = λ e. absurd (true≢false (sym is ∙ e));
    state = tt;
    cause = (is, refl);
    refused = (refl, refl);
    untouched = λ none. refl;
    tells = refl;
    stored = λ contents h. tt;
    crash = found s d;
  }

  -- memory was wanting before anything was committed
  wanting_step : (T : Type 0) (s : Stored) (d : D) → s.journal.halted ≡ false → (s.journal.halted ≡ false → HasRoom reach calls_left s.journal d)
      → StepsOnDisk {T = T} holds reach calls_left faults records s s d d (Err stop.NoMemory)
  wanting_step T s d is room = record {
    room = room;
    state = tt;
    cause = (is, refl);
    refused = (refl, refl);
    untouched = λ none. refl;
    tells = refl;
    stored = λ contents h. tt;
    crash = found s d;
  }

  lent_step : {T : Type 0} (r : Result T (StepFault StoreStop)) (before after : OnDisk D) → before.store.now.journal.halted ≡ false
      → (before.store.now.journal.halted ≡ false → HasRoom reach calls_left before.store.now.journal before.disk.now)
      → Commits (CommitsOnDisk holds reach calls_left faults) r records before after
      → StepsOnDisk holds reach calls_left faults records before.store.now after.store.now before.disk.now after.disk.now (stops_of r)
  lent_step (Ok g) before after is room h = record {
    room = h.room;
    state = h.state;
    cause = h.cause;
    refused = tt;
    untouched = h.untouched;
    tells = h.tells;
    stored = h.stored;
    crash = h.crash;
  }
  lent_step {T} (Err fault.NoMemory) before after is room h =
      subst (λ (x : OnDisk D). StepsOnDisk {T = T} holds reach calls_left faults records before.store.now x.store.now before.disk.now x.disk.now (Err stop.NoMemory)) (sym h)
      (wanting_step T before.store.now before.disk.now is room)
  lent_step (Err (fault.Uncommitted stop.NoMemory)) before after is room h = record {
    room = h.room;
    state = tt;
    cause = (h.cause.0, h.cause.2);
    refused = h.refused;
    untouched = h.untouched;
    tells = h.tells;
    stored = λ contents s. tt;
    crash = h.crash;
  }
  lent_step (Err (fault.Uncommitted stop.Halted)) before after is room h = record {
    room = h.room;
    state = tt;
    cause = h.cause;
    refused = h.refused;
    untouched = h.untouched;
    tells = h.tells;
    stored = λ contents s. tt;
    crash = h.crash;
  }
  lent_step (Err (fault.Uncommitted (stop.StoreFull full))) before after is room h = record {
    room = h.room;
    state = tt;
    cause = h.cause;
    refused = h.refused;
    untouched = h.untouched;
    tells = h.tells;
    stored = λ contents s. tt;
    crash = h.crash;
  }
  lent_step (Err (fault.Uncommitted stop.StoreFault)) before after is room h = record {
    room = h.room;
    state = tt;
    cause = h.cause;
    refused = tt;
    untouched = h.untouched;
    tells = h.tells;
    stored = λ contents s. tt;
    crash = h.crash;
  }

  -- what is lent is the same disk afterwards
  same_disk : {T : Type 0} (r : Result T (StepFault StoreStop)) (before after : OnDisk D) → Commits (CommitsOnDisk holds reach calls_left faults) r records before after
      → before.disk.ghost_name ≡ after.disk.ghost_name
  same_disk (Ok g) before after h = sym (ap (λ (d : MutBor D). d.ghost_name) h.same_disk)
  same_disk (Err fault.NoMemory) before after h = sym (ap (λ (x : OnDisk D). x.disk.ghost_name) h)
  same_disk (Err (fault.Uncommitted s)) before after h = sym (ap (λ (d : MutBor D). d.ghost_name) h.same_disk)

  -- a step that was lent a store and a disk which is this one in the end
  pub lent_step_of : {T : Type 0} (r : Result T (StepFault StoreStop)) (answer : Result T StoreStop) (rs : List Record) (s : Stored) (before after : OnDisk D) (last : D)
      → Commits (CommitsOnDisk holds reach calls_left faults) r rs before after → (before.disk.ghost_name ≡ after.disk.ghost_name → last ≡ after.disk.now)
      → rs ≡ records → before.store.now ≡ s → s.journal.halted ≡ false → (s.journal.halted ≡ false → HasRoom reach calls_left s.journal before.disk.now)
      → answer ≡ stops_of r → StepsOnDisk holds reach calls_left faults records s after.store.now before.disk.now last answer
  lent_step_of {T} r answer rs s before after last h ends all same is room told =
      let k = subst (λ (l : List Record). Commits (CommitsOnDisk holds reach calls_left faults) r l before after) all h in
      let lent = lent_step r before after (ap (λ (x : Stored). x.journal.halted) same ∙ is) (subst (λ (x : Stored). x.journal.halted ≡ false → HasRoom reach calls_left x.journal before.disk.now) (sym same) room) k in
      rw (told, ends (same_disk r before after k), sym same) lent
