-- The store on its disk, and the stop.
use Rattle.std.proofs.Common.{◌≡◌, ℕ, ◌+◌, ◌==◌, true, List, ◌++◌, length, Option, Some, None, Result, Ok, Err, refl, sym, ap, subst, ◌∙◌, arith}
use Rattle.std.proofs.Math.Logic.{∥∥₁_map}
use Rattle.std.proofs.lemmas.Bool.Decides.{nat_tests}
use Rattle.disk_core.specs.Disk.{Held}
use Rattle.session_book.specs.declared.record.Record.{Record}
use Rattle.checkpoint_journal.specs.State.{State}
use Rattle.end_store.specs.Records.{fitting, spelled}
use Rattle.end_store.specs.Stored.{Stored, IsStored, IsKept, IsAsBefore}
use Rattle.step_hub.specs.declared.stop.Stop.{Stop}
use Rattle.step_hub.specs.declared.stop.Stop.TheVariants as stop
use Rattle.step_hub.specs.declared.stop.StepError.{StepError}
use Rattle.step_hub.specs.declared.stop.StepError.TheVariants as error
use Rattle.step_hub.specs.Hubs.{Settles}
use Rattle.shared_store.specs.Settling.{SettlesOnDisk}
use Rattle.shared_store.specs.Stops.{fits_journal, KeepsStore, HoldsRecords, TellsRecords}

-- as long as there is no stop, the disk has the store's journal
pub none_keeps : (s : Option Stop) (store : Stored) (held : Option Held) → s ≡ None → KeepsStore s store held → IsKept store held
none_keeps s store held none h = subst (λ (o : Option Stop). KeepsStore o store held) none h

pub keeps_none : (s : Option Stop) (store : Stored) (held : Option Held) → s ≡ None → IsKept store held → KeepsStore s store held
keeps_none s store held none h = subst (λ (o : Option Stop). KeepsStore o store held) (sym none) h

pub keeps_at_first : (s : Option Stop) (store : Stored) (held : Option Held) → s ≡ None → IsKept store held → ∥ KeepsStore s store held ∥₁
keeps_at_first s store held none kept = ∣ keeps_none s store held none kept ∣₁

-- another room on the disk is nothing to what it holds
kept_as_before : (before after : Stored) (held now : Option Held) → IsAsBefore before after held now → IsKept before held → IsKept after now
kept_as_before before after held now same h =
    subst (λ (s : Stored). IsKept s now) (sym same.0)
    (subst (λ (o : Option Held). IsKept (record before { journal = record before.journal { spare = after.journal.spare } }) o) (sym same.1)
    (h.0, record { journal = record { count = h.1.journal.count; file = h.1.journal.file }; book = h.1.book }))

-- a turn is settled, or refused
pub settled_keeps : {D T : Type 0} (holds : D → Option Held) (rs : List Record) (before after : Stored) (disk now : D) (r : Result T StepError) (s : Option Stop)
    (count old new faults counted : ℕ) → SettlesOnDisk holds rs before after disk now r → Settles r count old new s faults counted
    → IsKept before (holds disk) → KeepsStore s after (holds now)
settled_keeps holds rs before after disk now (Ok given) s count old new faults counted on h kept =
    keeps_none s after (holds now) h.4 (kept.0 ++ spelled (fitting before.kept rs), on.stored kept.0 kept.1)
settled_keeps holds rs before after disk now (Err error.StoreFault) s count old new faults counted on h kept =
    subst (λ (o : Option Stop). KeepsStore o after (holds now)) (sym h.0) tt
settled_keeps holds rs before after disk now (Err (error.StoreFull records)) s count old new faults counted on h kept =
    subst (λ (o : Option Stop). KeepsStore o after (holds now)) (sym h.4) (kept_as_before before after (holds disk) (holds now) on.refused kept)
settled_keeps holds rs before after disk now (Err error.Halted) s count old new faults counted on h kept = absurd h
settled_keeps holds rs before after disk now (Err error.NoMemory) s count old new faults counted on h kept =
    keeps_none s after (holds now) h.1 (kept_as_before before after (holds disk) (holds now) on.refused kept)

-- so it is of what had no stop
pub store_settles : {D T : Type 0} (holds : D → Option Held) (rs : List Record) (before after : Stored) (disk now : D) (r : Result T StepError) (s o : Option Stop)
    (count old new faults counted : ℕ) → SettlesOnDisk holds rs before after disk now r → Settles r count old new s faults counted → o ≡ None
    → ∥ KeepsStore o before (holds disk) ∥₁ → ∥ KeepsStore s after (holds now) ∥₁
store_settles holds rs before after disk now r s o count old new faults counted on h none kept =
    ∥∥₁_map kept (λ (k : KeepsStore o before (holds disk)). settled_keeps holds rs before after disk now r s count old new faults counted on h (none_keeps o before (holds disk) none k))

same_records : (records wanted : ℕ) (j : State) → fits_journal (Some (stop.Full records wanted)) j ≡ true → j.records ≡ records
same_records records wanted j h = grind (arith, nat_tests)

-- what the type of a hub keeps tells of the disk
pub stop_tells_records : (s : Option Stop) (store : Stored) (held : Option Held) → ∥ KeepsStore s store held ∥₁ → fits_journal s store.journal ≡ true → TellsRecords s held
stop_tells_records None store held kept fits = tt
stop_tells_records (Some stop.Fault) store held kept fits = tt
stop_tells_records (Some (stop.Full records wanted)) store held kept fits =
    ∥∥₁_map kept (λ (k : IsKept store held). (store, k, same_records records wanted store.journal fits))
