-- A step of an end with its store: what it comes to on the disk.
use Rattle.std.specs.Prelude.{⊤, ◌≡◌, ◌⊎◌, ℕ, ◌+◌, ◌-◌, ◌<◌, ◌≤◌, true, false, List, [], ◌++◌, length, Option, is_some, IfSome, Result, Ok, Err, OnOk}
use Rattle.disk_core.specs.Disk.{Held}
use Rattle.session_book.specs.declared.record.Record.{Record}
use Rattle.wire_base.specs.Causes.{Rose}
use Rattle.checkpoint_journal.specs.Format.{most_records}
use Rattle.checkpoint_journal.specs.State.{HasRoom}
use Rattle.checkpoint_journal.specs.Answers.{IsUnwritten, IsSafe}
use Rattle.session_book.specs.Books.{Kept}
use Rattle.stored_ends.specs.declared.stops.OpenStop.{OpenStop}
use Rattle.stored_ends.specs.declared.stops.OpenStop.TheVariants as opening
use Rattle.checkpoint_journal.specs.declared.open.JournalOpen.{JournalOpen}
use Rattle.checkpoint_journal.specs.declared.open.JournalOpen.TheVariants as journal
use Rattle.step_ledger.specs.declared.ledger.StepFault.{StepFault}
use Rattle.step_ledger.specs.declared.ledger.StepFault.TheVariants as fault
use Rattle.end_model.specs.Access.{Concentrator}
use Rattle.end_model.specs.End.{End}
use Rattle.end_store.specs.declared.store.StoreStop.{StoreStop}
use Rattle.end_store.specs.declared.store.StoreStop.TheVariants as stop
use Rattle.end_store.specs.Records.{fitting, spelled}
use Rattle.end_store.specs.Stored.{Stored, reads, IsLeftBehind, prepared, with_records, IsStored, IsKept, FindsFirst, StepLeaves}

pub record LacStored : Type 0 where
  pub lac : Concentrator
  pub store : Stored

pub record LnsStored : Type 0 where
  pub lns : End
  pub store : Stored

-- the answer of a step, in the words of the store
abbrev pub stop_of : StepFault StoreStop → StoreStop
stop_of fault.NoMemory = stop.NoMemory
stop_of (fault.Uncommitted s) = s

abbrev pub stops_of : {T : Type 0} → Result T (StepFault StoreStop) → Result T StoreStop
stops_of (Ok given) = Ok given
stops_of (Err f) = Err (stop_of f)

-- Why a step wasn't made: the disk failed at an earlier call; the area has no room for all records of the step; the disk failed, and some of
-- those that are in place may be committed; or memory was wanting, at whatever place.
abbrev pub StepStops : {T : Type 0} → List Record → Stored → Stored → ℕ → ℕ → Result T StoreStop → Type 0
StepStops rs before after faults now (Ok given) =
    (before.journal.halted ≡ false) × (before.journal.records + length rs ≤ most_records) × (now ≡ faults)
StepStops rs before after faults now (Err stop.Halted) = (before.journal.halted ≡ true) × (now ≡ faults)
StepStops rs before after faults now (Err (stop.StoreFull records)) =
    (before.journal.halted ≡ false) × (most_records < before.journal.records + length rs) × (records ≡ before.journal.records) × (now ≡ faults)
StepStops rs before after faults now (Err stop.NoMemory) = (before.journal.halted ≡ false) × (now ≡ faults)
StepStops rs before after faults now (Err stop.StoreFault) =
    (before.journal.halted ≡ false) × (before.journal.records + length rs ≤ most_records) × Rose faults now
    × (after.journal.halted ≡ true)
    × (after.journal.records < before.journal.records + length (fitting before.kept rs))

-- The records of a step were committed to the store on its disk before the step was made, or the step wasn't made.
pub record StepsOnDisk {D T : Type 0} (holds : D → Option Held) (reach calls_left faults : D → ℕ) (records : List Record) (before after : Stored) (disk now : D)
    (result : Result T StoreStop) : Type 0 where
  -- the next step may be made
  pub room : after.journal.halted ≡ false → HasRoom reach calls_left after.journal now
  -- of a step that was made the book has the records that are in place, and the journal has as many more
  pub state : OnOk result (after ≡ with_records (prepared (length records) before) records)
  -- why it wasn't made
  pub cause : StepStops records before after (faults disk) (faults now) result
  -- not made but for a fault, the store is as before but for its room, and so is what the disk holds
  pub refused : StepLeaves before after (holds disk) (holds now) result
  -- a step without records doesn't touch the disk
  pub untouched : records ≡ [] → now ≡ disk
  -- the disk tells what it holds as it did
  pub tells : is_some (holds now) ≡ is_some (holds disk)
  -- of a step that was made the disk has the contents from before, and behind them those of the records that are in place
  pub stored : (contents : List (List ℕ)) → IsStored before contents (holds disk)
      → OnOk result (IsStored after (contents ++ spelled (fitting before.kept records)) (holds now))
  -- whatever comes of it, the file opens with the book from before and the first few of the records that are in place
  pub crash : (contents : List (List ℕ)) → IsStored before contents (holds disk)
      → FindsFirst before contents records (after.journal.records - before.journal.records) (holds now)

-- ---- opening

-- why a store wasn't opened, or a start wasn't made, as the end tells it
abbrev pub unopened : JournalOpen → OpenStop
unopened (journal.NotJournal at) = opening.NotJournal at
unopened journal.StoreFault = opening.StoreFault
unopened journal.NoMemory = opening.NoMemory

abbrev pub unstarted : StoreStop → OpenStop
unstarted (stop.StoreFull records) = opening.StoreFull records
unstarted stop.StoreFault = opening.StoreFault
unstarted stop.Halted = opening.StoreFault
unstarted stop.NoMemory = opening.NoMemory

-- a store was opened over what a disk held, and a start over its book was made there, or wasn't
pub record OpensOnDisk {D T : Type 0} (holds : D → Option Held) (reach calls_left faults : D → ℕ) (kind number : ℕ) (records : Kept → List Record) (disk now : D)
    (after : Stored) (result : Result T StoreStop) : Type 0 where
  -- the store as it was opened, and the disk then
  pub opened : Stored
  pub mid : D
  -- its book is that of the file's contents, which the disk has
  pub book : IfSome (holds disk) (λ held. reads kind number held.bytes ≡ Ok opened.kept)
  pub kept : IsKept opened (holds mid)
  -- until then a file was written only where it is made new
  pub unwritten : IfSome (holds disk) (IsUnwritten (holds mid))
  pub unfailed : faults mid ≡ faults disk
  -- from then on it is the step of the start
  pub started : StepsOnDisk holds reach calls_left faults (records opened.kept) opened after mid now result

-- the store wasn't opened: no file is written then but one that is to be made new, and a crash in the call leaves nothing that one before it
-- might not have left
pub record StaysUnopened {D : Type 0} (holds : D → Option Held) (kind number : ℕ) (disk now : D) (e : JournalOpen) : Type 0 where
  pub left : IfSome (holds disk) (IsLeftBehind {T = ⊤} kind number (holds now) (Err e))
  pub safe : IfSome (holds disk) (IsSafe (holds now))

-- the store was opened, and its end's start wasn't made
abbrev pub StaysUnstarted : {D : Type 0} → (D → Option Held) → (D → ℕ) → (D → ℕ) → (D → ℕ) → ℕ → ℕ → (Kept → List Record) → D → D → StoreStop → Type 0
StaysUnstarted holds reach calls_left faults kind number records disk now e =
    (after : Stored) × OpensOnDisk {T = ⊤} holds reach calls_left faults kind number records disk now after (Err e)

-- Why an end wasn't opened: the file is no journal, or has a content that isn't in place, told by the place; the disk failed; the journal has no
-- room for the records of the start; or memory was wanting.
abbrev pub OpenStops : {D : Type 0} → (D → Option Held) → (D → ℕ) → (D → ℕ) → (D → ℕ) → ℕ → ℕ → (Kept → List Record) → D → D → OpenStop → Type 0
OpenStops holds reach calls_left faults kind number records disk now (opening.NotJournal at) =
    StaysUnopened holds kind number disk now (journal.NotJournal at) × IfSome (holds disk) (λ held. reads kind number held.bytes ≡ Err at)
    × (faults now ≡ faults disk)
OpenStops holds reach calls_left faults kind number records disk now opening.StoreFault =
    (StaysUnopened holds kind number disk now journal.StoreFault ⊎ StaysUnstarted holds reach calls_left faults kind number records disk now stop.StoreFault)
    × Rose (faults disk) (faults now)
OpenStops holds reach calls_left faults kind number records disk now (opening.StoreFull count) =
    StaysUnstarted holds reach calls_left faults kind number records disk now (stop.StoreFull count)
OpenStops holds reach calls_left faults kind number records disk now opening.NoMemory =
    (StaysUnopened holds kind number disk now journal.NoMemory ⊎ StaysUnstarted holds reach calls_left faults kind number records disk now stop.NoMemory)
    × (faults now ≡ faults disk)
