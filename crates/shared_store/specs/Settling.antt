-- What becomes of the store and its disk, as a turn is settled.
use Rattle.std.specs.Prelude.{◌≡◌, ℕ, ◌-◌, List, [], ◌++◌, length, Option, is_some, Result, Ok, Err, OnOk}
use Rattle.disk_core.specs.Disk.{Held}
use Rattle.session_book.specs.declared.record.Record.{Record}
use Rattle.end_store.specs.Records.{fitting, spelled}
use Rattle.end_store.specs.Stored.{Stored, prepared, with_records, IsStored, IsAsBefore, FindsFirst}
use Rattle.step_hub.specs.declared.stop.StepError.{StepError}
use Rattle.step_hub.specs.declared.stop.StepError.TheVariants as error

-- not settled but for a fault, the store is as before, but for the room on its disk, and so is what the disk holds
abbrev pub Stays : {T : Type 0} → Stored → Stored → Option Held → Option Held → Result T StepError → Type 0
Stays before after held now (Ok given) = Unit {0}
Stays before after held now (Err error.StoreFault) = Unit {0}
Stays before after held now (Err (error.StoreFull records)) = IsAsBefore before after held now
Stays before after held now (Err error.Halted) = IsAsBefore before after held now
Stays before after held now (Err error.NoMemory) = IsAsBefore before after held now

-- The records of a turn were committed to the store on its disk, or the turn isn't made.
pub record SettlesOnDisk {D T : Type 0} (holds : D → Option Held) (records : List Record) (before after : Stored) (disk now : D) (result : Result T StepError) : Type 0 where
  -- of a turn that is made the book has the records that are in place, and the journal has as many more
  pub state : OnOk result (after ≡ with_records (prepared (length records) before) records)
  pub refused : Stays before after (holds disk) (holds now) result
  -- a turn without records doesn't touch the disk
  pub untouched : records ≡ [] → now ≡ disk
  -- the disk tells what it holds as it did
  pub tells : is_some (holds now) ≡ is_some (holds disk)
  -- of a turn that is made the disk has the contents from before, and behind them those of the records that are in place
  pub stored : (contents : List (List ℕ)) → IsStored before contents (holds disk)
      → OnOk result (IsStored after (contents ++ spelled (fitting before.kept records)) (holds now))
  -- whatever comes of it, the file opens with the book from before and the first few of the records that are in place
  pub crash : (contents : List (List ℕ)) → IsStored before contents (holds disk)
      → FindsFirst before contents records (after.journal.records - before.journal.records) (holds now)
