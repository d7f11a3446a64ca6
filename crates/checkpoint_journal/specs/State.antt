-- A journal between two calls, and its disk.
use Rattle.std.specs.Prelude.{◌≡◌, ◌⊎◌, ◌<◌, ◌≤◌, ◌+◌, ◌*◌, ℕ, Bool, false, List, length, Option, IfSome}
use Rattle.disk_core.specs.Disk.{Held, MayLeave}
use Rattle.checkpoint_journal.specs.Commit.{IsFile}
use Rattle.checkpoint_journal.specs.Format.{gate_place, other_area, IsBeforeOrAfter, IsBeforeAndFirst, IsOldOrNew}

pub record State : Type 0 where
  -- 1 at a LAC, 2 at an LNS
  pub kind : ℕ
  -- the node's
  pub number : ℕ
  -- where the area in use begins
  pub start : ℕ
  -- how many records it has, and for how many more room was made
  pub records : ℕ
  pub spare : ℕ
  -- the disk failed at an earlier commit or compaction
  pub halted : Bool

abbrev pub opened_at : ℕ → ℕ → ℕ → ℕ → State
opened_at kind number start records = record { kind = kind; number = number; start = start; records = records; spare = 0; halted = false }

-- where the gate of the next record stands
abbrev pub next_gate : State → ℕ
next_gate journal = gate_place journal.start journal.records

-- compacted to so many records: they stand in the other area, and there is room for no more
abbrev pub compacted : ℕ → State → State
compacted count journal = record journal { start = other_area journal.start; records = count; spare = 0 }

-- The disk is as the last call on this journal left it: where it tells what it holds, that is the journal with these
-- contents.
pub record HasContents (journal : State) (contents : List (List ℕ)) (held : Option Held) : Type 0 where
  pub count : length contents ≡ journal.records
  pub file : IfSome held (IsFile journal.kind journal.number journal.start contents)

-- what may be found on a disk: what a read gives, and after a crash one of the images that it may leave
abbrev pub MayFind : Held → List ℕ → Type 0
MayFind held image = (image ≡ held.bytes) ⊎ MayLeave held image

-- all that may be found opens with the contents from before, or with these and this one last
abbrev pub FindsBeforeOrAfter : State → List (List ℕ) → List ℕ → Option Held → Type 0
FindsBeforeOrAfter journal contents content held = IfSome held (λ file. (image : List ℕ) → MayFind file image
    → IsBeforeOrAfter journal.kind journal.number contents content image)

-- all that may be found opens with the contents from before and the first few of these, so many at least
abbrev pub FindsBeforeAndFirst : State → List (List ℕ) → List (List ℕ) → ℕ → Option Held → Type 0
FindsBeforeAndFirst journal before contents least held = IfSome held (λ file. (image : List ℕ) → MayFind file image
    → IsBeforeAndFirst journal.kind journal.number before contents least image)

-- all that may be found opens with the one list or with the other
abbrev pub FindsOldOrNew : State → List (List ℕ) → List (List ℕ) → Option Held → Type 0
FindsOldOrNew journal before contents held = IfSome held (λ file. (image : List ℕ) → MayFind file image
    → IsOldOrNew journal.kind journal.number before contents image)

-- nothing may be found that might not have been found before
abbrev pub FindsNothingNew : Option Held → Held → Type 0
FindsNothingNew file before = IfSome file (λ held. (image : List ℕ) → MayFind held image → MayFind before image)

-- the room that was made on the disk for its spare is still there
pub record HasRoom {D : Type 0} (reach calls_left : D → ℕ) (journal : State) (disk : D) : Type 0 where
  pub far : 0 < journal.spare → gate_place journal.start (journal.records + journal.spare) + 1 ≤ reach disk
  pub many : 4 * journal.spare ≤ calls_left disk
