-- A checkpoint as a store on its disk, and what a commit to it answers.
use Rattle.std.specs.Prelude.{⊤, ◌≡◌, ℕ, ◌+◌, ◌<◌, ◌≤◌, Bool, true, false, List, [], length, take, Option, Some, None, option_map, Result, Ok, Err}
use Rattle.disk_core.specs.Disk.{Held}
use Rattle.disk_core.specs.Memory.{Store as Steady, Stopping}
use Rattle.session_book.specs.declared.record.Record.{Record}
use Rattle.session_book.specs.Books.{Kept}
use Rattle.checkpoint_journal.specs.Format.{most_records}
use Rattle.checkpoint_journal.specs.State.{HasRoom}
use Rattle.end_store.specs.Records.{kept_after_all, fitting}
use Rattle.end_store.specs.Stored.{Stored, reads, IsKept, OpensWithFirst}
use Rattle.world_model.specs.declared.stop.StopAt.{StopAt}
use Rattle.world_model.specs.World.{Checkpoint, Committed, IsFull, IsCut, IsWhole, new_checkpoint, with_stop, commits}
use Rattle.world_checkpoint.specs.declared.commits.Armed.{Armed}
use Rattle.world_checkpoint.specs.declared.commits.CommitStop.{CommitStop}
use Rattle.world_checkpoint.specs.declared.commits.CommitStop.TheVariants.{Full, Cut, NoMemory, Differs}

-- a stop without the call at which it is reached
abbrev pub stop_of : Option Armed → Option StopAt
stop_of stop = option_map (λ a. a.stop) stop

-- a store as a checkpoint, with the stop that is armed
abbrev pub seen : Option StopAt → Stored → Checkpoint
seen stop store = record { records = store.journal.records; book = store.kept; stop = stop }

-- at which call of its commit a stop is reached
abbrev pub call_of : Option Armed → Option ℕ
call_of stop = option_map (λ a. a.call) stop

-- a checkpoint as its node has it: what the world knows of it, of which kind of end its file is (1 for a LAC, 2 for an LNS), which
-- number that end has, and the call of its commit at which the stop that is armed is reached
pub record Filed : Type 0 where
  pub known : Checkpoint
  pub kind : ℕ
  pub number : ℕ
  pub call : Option ℕ

abbrev pub filed : Option Armed → Stored → Filed
filed stop store = record { known = seen (stop_of stop) store; kind = store.journal.kind; number = store.journal.number; call = call_of stop }

abbrev pub new_filed : ℕ → ℕ → Filed
new_filed kind number = record { known = new_checkpoint; kind = kind; number = number; call = None }

-- with this stop, reached at that call
abbrev pub with_armed : Option StopAt → Option ℕ → Filed → Filed
with_armed stop call f = record f { known = with_stop stop f.known; call = call }

-- records were cut off by a stop
abbrev pub IsCutOff : Committed → Type 0
IsCutOff (IsFull records) = ⊥
IsCutOff (IsCut k) = Unit {0}
IsCutOff (IsWhole k) = ⊥

-- what a commit answers by what comes of its records, and the checkpoint before and after it
abbrev pub CommitsTo : Result ⊤ CommitStop → Committed → Checkpoint → Checkpoint → Type 0
CommitsTo (Ok done) c before after = c ≡ IsWhole after
CommitsTo (Err (Full records)) c before after = (c ≡ IsFull records) × (after ≡ before)
CommitsTo (Err Cut) c before after = c ≡ IsCut after
CommitsTo (Err NoMemory) c before after = after ≡ before
CommitsTo (Err Differs) c before after = IsCutOff c × (after ≡ before)

-- so it is of a node's: it stays the file of that node, and the stop's call stays
abbrev pub CommitsFile : Filed → List Record → Result ⊤ CommitStop → Filed → Type 0
CommitsFile before records result after =
    CommitsTo result (commits before.known records) before.known after.known × (after ≡ record before { known = after.known })

-- ---- the store and its disk

-- one store is of the same node as another
pub record IsAlike (before after : Stored) : Type 0 where
  pub kind : after.journal.kind ≡ before.journal.kind
  pub number : after.journal.number ≡ before.journal.number

-- a store is of that kind and number
pub record IsOf (kind number : ℕ) (store : Stored) : Type 0 where
  pub kind_is : store.journal.kind ≡ kind
  pub number_is : store.journal.number ≡ number

-- the store goes on: the disk has its records, and the room that was made for more
pub record IsLive {D : Type 0} (holds : D → Option Held) (reach calls_left : D → ℕ) (store : Stored) (disk : D) : Type 0 where
  pub on : store.journal.halted ≡ false
  pub kept : IsKept store (holds disk)
  pub room : HasRoom reach calls_left store.journal disk

abbrev pub IsOnDisk : Stored → Steady → Type 0
IsOnDisk store disk = IsLive (λ d. Some d.held) (λ d. d.prepared_to) (λ d. d.prepared_calls) store disk

-- on a disk that can stop
abbrev pub IsOnStopDisk : Stored → Stopping → Type 0
IsOnStopDisk store disk = IsLive (λ d. Some d.disk.store.held) (λ d. d.disk.store.prepared_to) (λ d. d.disk.store.prepared_calls) store disk

-- there is room for one more record
pub record HasRoomForOne (store : Stored) : Type 0 where
  pub few : store.journal.records < most_records
  pub spare : (1 ≤ store.spare) × (1 ≤ store.journal.spare)

-- a file that opens with a book, as that of this kind and number
abbrev pub OpensTo : ℕ → ℕ → Kept → List ℕ → Type 0
OpensTo kind number book file = reads kind number file ≡ Ok book

-- ---- records

-- the store has those that it had
pub record HasSame (before after : Stored) : Type 0 where
  pub records : after.journal.records ≡ before.journal.records
  pub kept : after.kept ≡ before.kept

-- the store has these more, as far as they are in place
pub record HasMore (rs : List Record) (before after : Stored) : Type 0 where
  pub records : after.journal.records ≡ before.journal.records + length (fitting before.kept rs)
  pub kept : after.kept ≡ kept_after_all before.kept rs

-- the store has the first few of these that are in place
pub record HasFirst (rs : List Record) (before after : Stored) : Type 0 where
  pub count : ℕ
  pub within : count ≤ length (fitting before.kept rs)
  pub records : after.journal.records ≡ before.journal.records + count
  pub kept : after.kept ≡ kept_after_all before.kept (take count (fitting before.kept rs))

-- there is no room for these
pub record HasNoRoom (records : ℕ) (rs : List Record) (before after : Stored) : Type 0 where
  pub past : 1048576 < before.journal.records + length rs
  pub told : records ≡ before.journal.records
  pub same : HasSame before after

-- all of these were committed, or why not
abbrev pub CommitsAll : Result ⊤ CommitStop → List Record → Stored → Stored → Type 0
CommitsAll (Ok done) rs before after = (before.journal.records + length rs ≤ 1048576) × HasMore rs before after
CommitsAll (Err (Full records)) rs before after = HasNoRoom records rs before after
CommitsAll (Err Cut) rs before after = ⊥
CommitsAll (Err NoMemory) rs before after = HasSame before after
CommitsAll (Err Differs) rs before after = ⊥

-- of these the first were committed, or why not
abbrev pub CutsOff : CommitStop → List Record → List Record → Stored → Stored → Type 0
CutsOff Cut rs first before after = (before.journal.records + length rs ≤ 1048576) × HasMore first before after
CutsOff (Full records) rs first before after = HasNoRoom records rs before after
CutsOff NoMemory rs first before after = HasSame before after
CutsOff Differs rs first before after = (before.journal.records + length rs ≤ 1048576) × HasSame before after

-- the last one was committed where it is kept
abbrev pub CutsLast : Bool → List Record → Stored → Stored → Type 0
CutsLast true last before after = HasMore last before after
CutsLast false last before after = HasMore [] before after

-- the file opens with the store's records and the first few of these that are in place
abbrev pub LeavesFirst : List Record → Stored → List ℕ → Type 0
LeavesFirst rs store file = (contents : List (List ℕ)) × (length contents ≡ store.journal.records) × OpensWithFirst store contents rs 0 file
