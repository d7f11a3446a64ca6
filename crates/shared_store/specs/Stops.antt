-- What is kept of a stop.
use Rattle.std.specs.Prelude.{◌≡◌, ℕ, ◌+◌, ◌-◌, ◌<◌, ◌==◌, ◌&&◌, not, min, nat_lt, nat_le, Bool, true, Option, Some, None}
use Rattle.wire_base.specs.Causes.{Rose}
use Rattle.disk_core.specs.Disk.{Held}
use Rattle.checkpoint_journal.specs.State.{State}
use Rattle.end_store.specs.Stored.{Stored, IsKept}
use Rattle.step_hub.specs.declared.stop.Stop.{Stop}
use Rattle.step_hub.specs.declared.stop.Stop.TheVariants as stop
use Rattle.step_hub.specs.Hubs.{most_of_turn, most_records}

-- By the journal: as long as there is no stop, its disk didn't fail. It stopped for want of room only where it has so many records, and with
-- those of one turn they pass the limit.
abbrev pub fits_journal : Option Stop → State → Bool
fits_journal None j = not j.halted
fits_journal (Some stop.Fault) j = true
fits_journal (Some (stop.Full records wanted)) j = j.records == records && (nat_le wanted 16384 && nat_lt 1048576 (records + wanted))

-- By the count of faults: it rose above the first one exactly where the store failed, or stands at the last number of 64 bits.
abbrev pub fits_count : ℕ → ℕ → Option Stop → Bool
fits_count begun now (Some stop.Fault) = nat_le (min (begun + 1) 18446744073709551615) now
fits_count begun now (Some (stop.Full records wanted)) = now == begun
fits_count begun now None = now == begun

-- what a stop tells of the count of faults, and a stop for want of room of the records too
abbrev pub Tells : Option Stop → ℕ → ℕ → Type 0
Tells (Some stop.Fault) begun now = Rose begun now
Tells (Some (stop.Full records wanted)) begun now = (most_records - most_of_turn < records) × (now ≡ begun)
Tells None begun now = now ≡ begun

-- As long as its disk didn't fail the store stands on it: what the disk holds, where it tells that, is a journal with as many records as the
-- store counts.
abbrev pub KeepsStore : Option Stop → Stored → Option Held → Type 0
KeepsStore None store held = IsKept store held
KeepsStore (Some stop.Fault) store held = Unit {0}
KeepsStore (Some (stop.Full records wanted)) store held = IsKept store held

-- what the disk holds, where it tells that, is a journal with so many records
abbrev pub HoldsRecords : ℕ → Option Held → Type 0
HoldsRecords records held = ∥ ((store : Stored) × IsKept store held × (store.journal.records ≡ records)) ∥₁

-- of a stop for want of room the journal on the disk has so many records
abbrev pub TellsRecords : Option Stop → Option Held → Type 0
TellsRecords None held = Unit {0}
TellsRecords (Some stop.Fault) held = Unit {0}
TellsRecords (Some (stop.Full records wanted)) held = HoldsRecords records held
