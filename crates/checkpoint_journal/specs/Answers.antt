-- What the calls answer, and when each refusal comes.
use Rattle.std.specs.Prelude.{◌≡◌, ◌⊎◌, ◌<◌, ◌≤◌, ◌+◌, ◌-◌, ℕ, true, false, List, [], ◌++◌, length, take, Option, Some, option_map, Result, Ok, Err}
use Rattle.wire_base.specs.Causes.{Rose}
use Rattle.disk_core.specs.Disk.{Held, durable, settled}
use Rattle.checkpoint_journal.specs.Format.{most_records, is_made, spelling, spelled_area}
use Rattle.checkpoint_journal.specs.Commit.{IsHalfMade, IsHalfCompacted, compact_after}
use Rattle.checkpoint_journal.specs.State.{State, FindsNothingNew}
use Rattle.checkpoint_journal.specs.declared.crash.Reopened.{Reopened}
use Rattle.checkpoint_journal.specs.declared.open.JournalOpen.{JournalOpen}
use Rattle.checkpoint_journal.specs.declared.open.JournalOpen.TheVariants.{NotJournal, StoreFault, NoMemory}
use Rattle.checkpoint_journal.specs.declared.compaction.CompactStop.{CompactStop}
use Rattle.checkpoint_journal.specs.declared.compaction.CompactStop.TheVariants as compact
use Rattle.checkpoint_journal.specs.declared.journal.JournalRoom.{JournalRoom}
use Rattle.checkpoint_journal.specs.declared.journal.JournalRoom.TheVariants as room
use Rattle.checkpoint_journal.specs.declared.journal.JournalStop.{JournalStop}
use Rattle.checkpoint_journal.specs.declared.journal.JournalStop.TheVariants as stop

-- ---- opening

-- the answer is what was read: a value, or the place at which the file isn't a journal
abbrev pub Opens : {T Y : Type 0} → (T → Y) → Result Y ℕ → Result T JournalOpen → Type 0
Opens view read (Ok found) = read ≡ Ok (view found)
Opens view read (Err (NotJournal at)) = read ≡ Err at
Opens view read (Err StoreFault) = Unit {0}
Opens view read (Err NoMemory) = Unit {0}

-- the disk's count rose where it failed, and stayed otherwise
abbrev pub OpenHasCause : {T : Type 0} → ℕ → ℕ → Result T JournalOpen → Type 0
OpenHasCause before now (Ok found) = now ≡ before
OpenHasCause before now (Err (NotJournal at)) = now ≡ before
OpenHasCause before now (Err StoreFault) = Rose before now
OpenHasCause before now (Err NoMemory) = now ≡ before

-- the refusal tells the file's length
abbrev pub EndsEarly : ℕ → JournalOpen → Type 0
EndsEarly size (NotJournal at) = at ≡ size
EndsEarly size StoreFault = Unit {0}
EndsEarly size NoMemory = ⊥

abbrev pub FaultHasCause : ℕ → ℕ → JournalOpen → Type 0
FaultHasCause before now (NotJournal at) = now ≡ before
FaultHasCause before now StoreFault = Rose before now
FaultHasCause before now NoMemory = ⊥

-- the file is as it was, or synced
abbrev pub IsSame : Option Held → Held → Type 0
IsSame file held = (file ≡ Some held) ⊎ (file ≡ Some (settled held))

-- a file that isn't made new isn't written
abbrev pub IsUnwritten : Option Held → Held → Type 0
IsUnwritten file held = (is_made held.bytes ≡ true) ⊎ (33 < length held.bytes) → IsSame file held

-- so a crash in the call leaves nothing that one before it might not have left
abbrev pub IsSafe : Option Held → Held → Type 0
IsSafe file held = (is_made held.bytes ≡ true) ⊎ (33 < length held.bytes) → FindsNothingNew file held

-- after a refusal no file is written but one that is to be made new, where the disk failed while it was made
abbrev pub IsLeftBehind : {T : Type 0} → ℕ → ℕ → Option Held → Result T JournalOpen → Held → Type 0
IsLeftBehind kind number file (Ok opened) held = Unit {0}
IsLeftBehind kind number file (Err (NotJournal at)) held = IsSame file held
IsLeftBehind kind number file (Err StoreFault) held =
    IsSame file held ⊎ ((is_made held.bytes ≡ false) × IsHalfMade kind number (Some (settled held)) file)
IsLeftBehind kind number file (Err NoMemory) held = IsSame file held

-- a file that is made new has the spelling of no contents
abbrev pub IsMadeNew : ℕ → ℕ → Option Held → Held → Type 0
IsMadeNew kind number file held = is_made held.bytes ≡ false → file ≡ Some (durable (spelling kind number []))

-- ---- the other calls

-- why no room was made, the first cause in this order
abbrev pub RoomHasCause : {T : Type 0} → State → ℕ → Result T JournalRoom → Type 0
RoomHasCause before count (Ok done) = (before.halted ≡ false) × (before.records + count ≤ most_records)
RoomHasCause before count (Err room.Halted) = before.halted ≡ true
RoomHasCause before count (Err (room.StoreFull records)) =
    (before.halted ≡ false) × (most_records < before.records + count) × (records ≡ before.records)
RoomHasCause before count (Err room.NoMemory) = (before.halted ≡ false) × (before.records + count ≤ most_records)

-- why a content wasn't committed: after a failure of the disk the journal is halted
abbrev pub StopHasCause : {T : Type 0} → State → State → ℕ → ℕ → Result T JournalStop → Type 0
StopHasCause before after faults now (Ok done) = (before.halted ≡ false) × (now ≡ faults)
StopHasCause before after faults now (Err stop.Halted) = (before.halted ≡ true) × (after ≡ before) × (now ≡ faults)
StopHasCause before after faults now (Err stop.StoreFault) =
    (before.halted ≡ false) × (after ≡ record before { halted = true }) × Rose faults now

-- Why the journal wasn't compacted: after a failure of the disk it is halted, and where memory was wanting it is as before.
abbrev pub CompactHasCause : {T : Type 0} → State → State → ℕ → ℕ → Result T CompactStop → Type 0
CompactHasCause before after faults now (Ok done) = (before.halted ≡ false) × (now ≡ faults)
CompactHasCause before after faults now (Err compact.Halted) = (before.halted ≡ true) × (after ≡ before) × (now ≡ faults)
CompactHasCause before after faults now (Err compact.StoreFault) =
    (before.halted ≡ false) × (after ≡ record before { halted = true }) × Rose faults now
CompactHasCause before after faults now (Err compact.NoMemory) = (before.halted ≡ false) × (after ≡ before) × (now ≡ faults)

-- What the calls of a compaction into an area make of the file: all four, or the first or the first three, the last of which
-- is pending, where the disk failed. Otherwise there are none.
abbrev pub CompactLeaves : {T : Type 0} → ℕ → List (List ℕ) → Option Held → Option Held → Result T CompactStop → Type 0
CompactLeaves area contents before now (Ok done) = now ≡ option_map (compact_after 4 area (spelled_area contents)) before
CompactLeaves area contents before now (Err compact.Halted) = now ≡ before
CompactLeaves area contents before now (Err compact.StoreFault) = IsHalfCompacted area (spelled_area contents) before now
CompactLeaves area contents before now (Err compact.NoMemory) = now ≡ before

-- why not all of so many contents were committed: some of them may be, and after a failure of the disk the journal is halted
abbrev pub SomeHaveCause : {T : Type 0} → ℕ → State → State → ℕ → ℕ → Result T JournalStop → Type 0
SomeHaveCause count before after faults now (Ok done) = (before.halted ≡ false) × (now ≡ faults)
SomeHaveCause count before after faults now (Err stop.Halted) = (before.halted ≡ true) × (after ≡ before) × (now ≡ faults)
SomeHaveCause count before after faults now (Err stop.StoreFault) =
    (before.halted ≡ false) × Rose faults now
    × ((done : ℕ) × (done < count)
    × (after ≡ record before { records = before.records + done; spare = before.spare - done; halted = true }))

-- ---- a commit, a crash, and opening again

-- the contents from before and the first few of these, and all of them where their commit was acknowledged
abbrev pub GivesBeforeAndFirst : List (List ℕ) → List (List ℕ) → Result Reopened JournalOpen → Type 0
GivesBeforeAndFirst before contents (Ok reopened) =
    (n : ℕ) × (n ≤ length contents) × (reopened.contents ≡ before ++ take n contents) × (reopened.acknowledged ≡ true → n ≡ length contents)
GivesBeforeAndFirst before contents (Err (NotJournal at)) = ⊥
GivesBeforeAndFirst before contents (Err StoreFault) = Unit {0}
GivesBeforeAndFirst before contents (Err NoMemory) = Unit {0}

-- a commit isn't acknowledged, and nothing opened, only where the disk failed, the journal was halted or memory was wanting
abbrev pub ReopenHasCause : State → ℕ → ℕ → Result Reopened JournalOpen → Type 0
ReopenHasCause before faults now (Ok reopened) =
    (reopened.acknowledged ≡ true → now ≡ faults) × (reopened.acknowledged ≡ false → (before.halted ≡ true) ⊎ Rose faults now)
ReopenHasCause before faults now (Err (NotJournal at)) = Unit {0}
ReopenHasCause before faults now (Err StoreFault) = Rose faults now
ReopenHasCause before faults now (Err NoMemory) = Unit {0}
