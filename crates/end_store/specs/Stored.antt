-- A store between two calls, its disk, and what opens from that disk.
use Rattle.std.specs.Prelude.{◌≡◌, ◌⊎◌, ℕ, ◌+◌, ◌-◌, ◌<◌, ◌≤◌, max, true, false, List, [], ◌++◌, length, take, Option, Some, IfSome, Result, Ok, Err, if◌then◌else◌}
use Rattle.disk_core.specs.Disk.{Held, durable, settled}
use Rattle.session_book.specs.declared.record.Record.{Record}
use Rattle.session_book.specs.declared.book.BookError.{BookError}
use Rattle.session_book.specs.declared.book.BookError.TheVariants as book_error
use Rattle.session_book.specs.Books.{Kept, Held as BookHeld, fits, stepped, book_of}
use Rattle.session_book.specs.Spelling.{contents_of}
use Rattle.wire_base.specs.Causes.{Rose}
use Rattle.checkpoint_journal.specs.Format.{most_records, content_place, start_of, opens, is_made, spelling, IsOldOrNew}
use Rattle.checkpoint_journal.specs.Commit.{IsHalfMade}
use Rattle.checkpoint_journal.specs.State.{State, HasContents, MayFind, compacted}
use Rattle.checkpoint_journal.specs.Answers.{IsSame}
use Rattle.checkpoint_journal.specs.declared.open.JournalOpen.{JournalOpen}
use Rattle.checkpoint_journal.specs.declared.open.JournalOpen.TheVariants.{NotJournal, StoreFault, NoMemory}
use Rattle.end_store.specs.declared.store.StoreStop.{StoreStop}
use Rattle.end_store.specs.declared.store.StoreStop.TheVariants as stop
use Rattle.end_store.specs.Records.{kept_after_all, fitting, spelled}

-- a journal, the book of its contents, and for how many more records there is room
pub record Stored : Type 0 where
  pub journal : State
  pub kept : Kept
  pub spare : ℕ

-- ---- what opens

-- a book, or where in the file the first content begins that isn't in place
abbrev pub placed : ℕ → Result Kept BookError → Result Kept ℕ
placed start (Ok k) = Ok k
placed start (Err (book_error.BadRecord at)) = Err (content_place start at)
placed start (Err book_error.NoMemory) = Err 0

abbrev pub booked : ℕ → Result (List (List ℕ)) ℕ → Result Kept ℕ
booked start (Ok contents) = placed start (book_of contents)
booked start (Err at) = Err at

-- what a file opens with: the book of its contents, or the place at which it isn't a journal or has a content that isn't in place
abbrev pub reads : ℕ → ℕ → List ℕ → Result Kept ℕ
reads kind number file = booked (start_of file) (opens kind number file)

-- the answer for contents that were read: their book, or the place at which they are refused, or memory was wanting
abbrev pub IsRead : Result Kept ℕ → Result BookHeld JournalOpen → Type 0
IsRead read (Ok b) = read ≡ Ok b.kept
IsRead read (Err (NotJournal at)) = read ≡ Err at
IsRead read (Err StoreFault) = ⊥
IsRead read (Err NoMemory) = Unit {0}

-- the journal has these contents on its disk, and the book is theirs
pub record IsStored (store : Stored) (contents : List (List ℕ)) (held : Option Held) : Type 0 where
  pub journal : HasContents store.journal contents held
  pub book : book_of contents ≡ Ok store.kept

abbrev pub IsKept : Stored → Option Held → Type 0
IsKept store held = (contents : List (List ℕ)) × IsStored store contents held

-- After a refusal no file is written but one that is to be made new: it has the spelling of no contents where memory was wanting then,
-- and isn't whole where the disk failed while it was made.
abbrev pub IsLeftBehind : {T : Type 0} → ℕ → ℕ → Option Held → Result T JournalOpen → Held → Type 0
IsLeftBehind kind number file (Ok opened) held = Unit {0}
IsLeftBehind kind number file (Err (NotJournal at)) held = IsSame file held
IsLeftBehind kind number file (Err StoreFault) held =
    IsSame file held ⊎ ((is_made held.bytes ≡ false) × IsHalfMade kind number (Some (settled held)) file)
IsLeftBehind kind number file (Err NoMemory) held =
    IsSame file held ⊎ ((is_made held.bytes ≡ false) × (file ≡ Some (durable (spelling kind number []))))

-- ---- a record

-- room was made for so many more
abbrev pub prepared : ℕ → Stored → Stored
prepared count s = record s { journal = record s.journal { spare = max s.journal.spare count }; spare = max s.spare count }

-- a record that is in place is one of the journal's, and any other only takes up room
abbrev pub with_record : Stored → Record → Stored
with_record s r =
    if fits s.kept r
    then record { journal = record s.journal { records = s.journal.records + 1; spare = s.journal.spare - 1 }; kept = stepped s.kept r; spare = s.spare - 1 }
    else record s { spare = s.spare - 1 }

-- so it is with more of them
abbrev pub with_records : Stored → List Record → Stored
with_records s rs =
    let count = length (fitting s.kept rs) in
    record {
      journal = record s.journal { records = s.journal.records + count; spare = s.journal.spare - count };
      kept = kept_after_all s.kept rs;
      spare = s.spare - length rs;
    }

-- ---- what may be found on the disk while records are committed

-- the file opens with the contents from before and those of the first few of the records that are in place, so many at least, and so
-- with the book behind these
abbrev pub OpensWithFirst : Stored → List (List ℕ) → List Record → ℕ → List ℕ → Type 0
OpensWithFirst store before rs least image =
    (n : ℕ) × (least ≤ n) × (n ≤ length (fitting store.kept rs))
    × (opens store.journal.kind store.journal.number image ≡ Ok (before ++ spelled (take n (fitting store.kept rs))))
    × (reads store.journal.kind store.journal.number image ≡ Ok (kept_after_all store.kept (take n (fitting store.kept rs))))

-- so it is of all that may be found: what a read gives, and each image that a crash may leave
abbrev pub FindsFirst : Stored → List (List ℕ) → List Record → ℕ → Option Held → Type 0
FindsFirst store before rs least held = IfSome held (λ file. (image : List ℕ) → MayFind file image → OpensWithFirst store before rs least image)

-- ---- the records of a step

abbrev pub IsAsBefore : Stored → Stored → Option Held → Option Held → Type 0
IsAsBefore before after held now = (after ≡ record before { journal = record before.journal { spare = after.journal.spare } }) × (now ≡ held)

-- Why they weren't committed, the first cause in this order: the disk failed at an earlier call; the area has no room for all of them; memory
-- was wanting; the disk failed, and some of those that are in place may be committed.
abbrev pub StepHasCause : {T : Type 0} → List Record → Stored → Stored → ℕ → ℕ → Result T StoreStop → Type 0
StepHasCause rs before after faults now (Ok done) =
    (before.journal.halted ≡ false) × (before.journal.records + length rs ≤ most_records) × (now ≡ faults)
StepHasCause rs before after faults now (Err stop.Halted) = (before.journal.halted ≡ true) × (now ≡ faults)
StepHasCause rs before after faults now (Err (stop.StoreFull records)) =
    (before.journal.halted ≡ false) × (most_records < before.journal.records + length rs) × (records ≡ before.journal.records) × (now ≡ faults)
StepHasCause rs before after faults now (Err stop.NoMemory) =
    (before.journal.halted ≡ false) × (before.journal.records + length rs ≤ most_records) × (now ≡ faults)
StepHasCause rs before after faults now (Err stop.StoreFault) =
    (before.journal.halted ≡ false) × (before.journal.records + length rs ≤ most_records) × Rose faults now
    × (after.journal.halted ≡ true)
    × (after.journal.records < before.journal.records + length (fitting before.kept rs))

-- where they were refused but by a fault, the store is as before, but for the room on its disk, and so is what the disk holds
abbrev pub StepLeaves : {T : Type 0} → Stored → Stored → Option Held → Option Held → Result T StoreStop → Type 0
StepLeaves before after held now (Ok done) = Unit {0}
StepLeaves before after held now (Err stop.Halted) = IsAsBefore before after held now
StepLeaves before after held now (Err (stop.StoreFull records)) = IsAsBefore before after held now
StepLeaves before after held now (Err stop.NoMemory) = IsAsBefore before after held now
StepLeaves before after held now (Err stop.StoreFault) = Unit {0}

-- ---- a compaction

-- The journal has the contents of the book and no others, in its other area, and room for no more. The book stays, and so does its room.
abbrev pub compacted_to_book : Stored → Stored
compacted_to_book s = record s { journal = compacted (length (contents_of s.kept)) s.journal }

-- the file opens with the contents from before or with those of the book alone, and either way with the book
abbrev pub OpensWithBook : Stored → List (List ℕ) → List ℕ → Type 0
OpensWithBook store before image =
    IsOldOrNew store.journal.kind store.journal.number before (contents_of store.kept) image
    × (reads store.journal.kind store.journal.number image ≡ Ok store.kept)

-- so it is of all that may be found
abbrev pub FindsBook : Stored → List (List ℕ) → Option Held → Type 0
FindsBook store before held = IfSome held (λ file. (image : List ℕ) → MayFind file image → OpensWithBook store before image)
