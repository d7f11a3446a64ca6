-- A store and its disk that are lent as a ledger, and what becomes of both.
use Rattle.std.specs.Prelude.{◌≡◌, ℕ, ◌-◌, ◌≤◌, false, List, [], ◌++◌, length, Option, is_some, Result, OnOk, ⊤}
use Rattle.disk_core.specs.Disk.{Held}
use Rattle.session_book.specs.declared.record.Record.{Record}
use Rattle.checkpoint_journal.specs.State.{HasRoom}
use Rattle.end_store.specs.declared.on_disk.OnDisk.{OnDisk}
use Rattle.end_store.specs.declared.store.StoreStop.{StoreStop}
use Rattle.end_store.specs.Records.{fitting, spelled}
use Rattle.end_store.specs.Stored.{prepared, with_records, IsStored, FindsFirst, StepHasCause, StepLeaves}

-- the room that was made on the disk for the store's spare is still there, unless the store is halted
abbrev pub HasRoomOnDisk : {D : Type 0} → (D → ℕ) → (D → ℕ) → OnDisk D → Type 0
HasRoomOnDisk reach calls_left ledger =
    ledger.store.now.journal.halted ≡ false → HasRoom reach calls_left ledger.store.now.journal ledger.disk.now

-- The records of a step were committed to a store on its disk, or refused. Each of the clauses of `Store::commit_step` is a field.
pub record CommitsOnDisk {D : Type 0} (holds : D → Option Held) (reach calls_left faults : D → ℕ) (before : OnDisk D) (records : List Record)
    (result : Result ⊤ StoreStop) (after : OnDisk D) : Type 0 where
  -- what is lent are the same two: whoever lent them has in the end what they are then
  pub same_store : after.store ≡ record before.store { now = after.store.now }
  pub same_disk : after.disk ≡ record before.disk { now = after.disk.now }
  -- the next step may be committed
  pub room : HasRoomOnDisk reach calls_left after
  -- at `Ok` the book has the records that are in place, and the journal has as many more
  pub state : OnOk result (after.store.now ≡ with_records (prepared (length records) before.store.now) records)
  -- why they were refused
  pub cause : StepHasCause records before.store.now after.store.now (faults before.disk.now) (faults after.disk.now) result
  -- refused but by a fault, the store is as before but for its room, and so is what the disk holds
  pub refused : StepLeaves before.store.now after.store.now (holds before.disk.now) (holds after.disk.now) result
  -- a step without records doesn't touch the disk
  pub untouched : records ≡ [] → after.disk.now ≡ before.disk.now
  -- nor does one with none that is in place, where there is room already
  pub none_in_place : length records ≤ before.store.now.journal.spare → fitting before.store.now.kept records ≡ [] → after.disk.now ≡ before.disk.now
  -- the disk tells what it holds as it did
  pub tells : is_some (holds after.disk.now) ≡ is_some (holds before.disk.now)
  -- at `Ok` the disk has the contents from before, and behind them those of the records that are in place
  pub stored : (contents : List (List ℕ)) → IsStored before.store.now contents (holds before.disk.now)
      → OnOk result (IsStored after.store.now (contents ++ spelled (fitting before.store.now.kept records)) (holds after.disk.now))
  -- whatever comes of it, the file opens with the book from before and the first few of the records that are in place
  pub crash : (contents : List (List ℕ)) → IsStored before.store.now contents (holds before.disk.now)
      → FindsFirst before.store.now contents records (after.store.now.journal.records - before.store.now.journal.records) (holds after.disk.now)
