-- A commit, a making and a compaction as calls of the device, and the file after so many of them.
use Rattle.std.specs.Prelude.{◌≡◌, ◌⊎◌, ℕ, ◌+◌, true, List, [], ◌∷◌, ◌++◌, take, Option, option_map, Ok}
use Rattle.disk_core.specs.Disk.{Held, durable, wrote, settled}
use Rattle.checkpoint_journal.specs.Format.{open_gate, closed_gate, header, is_made, selector, selector_place, start_of, opens}

pub data DeviceCall : Type 0 where
  Writes : ℕ → List ℕ → DeviceCall
  Syncs : DeviceCall

abbrev pub called : DeviceCall → Held → Held
called (Writes at piece) held = wrote at piece held
called Syncs held = settled held

abbrev pub after_calls : List DeviceCall → Held → Held
after_calls [] held = held
after_calls (call ∷ calls) held = after_calls calls (called call held)

-- the content with a closed gate behind it, and only once both are durable its own gate
abbrev pub commit_calls : ℕ → List ℕ → List DeviceCall
commit_calls gate content = Writes (gate + 1) (content ++ closed_gate ∷ []) ∷ Syncs ∷ Writes gate (open_gate ∷ []) ∷ Syncs ∷ []

-- the file after so many calls of a commit
abbrev pub commit_after : ℕ → ℕ → List ℕ → Held → Held
commit_after count gate content held = after_calls (take count (commit_calls gate content)) held

-- a new file: its header and a closed gate, and only once they are durable its own gate
abbrev pub make_calls : ℕ → ℕ → List DeviceCall
make_calls kind number =
    Writes 1 (header kind number ++ closed_gate ∷ closed_gate ∷ []) ∷ Syncs ∷ Writes 0 (open_gate ∷ []) ∷ Syncs ∷ []

-- the file after so many calls of its making
abbrev pub make_after : ℕ → ℕ → ℕ → Held → Held
make_after count kind number held = after_calls (take count (make_calls kind number)) held

-- A compaction: the other area written whole, and only once it is durable the selector that chooses it.
abbrev pub compact_calls : ℕ → List ℕ → List DeviceCall
compact_calls area piece = Writes area piece ∷ Syncs ∷ Writes selector_place (selector area ∷ []) ∷ Syncs ∷ []

-- the file after so many calls of a compaction into an area
abbrev pub compact_after : ℕ → ℕ → List ℕ → Held → Held
compact_after count area piece held = after_calls (take count (compact_calls area piece)) held

-- the making of a new file stopped at its first or its second write: the write is pending
abbrev pub IsHalfMade : ℕ → ℕ → Option Held → Option Held → Type 0
IsHalfMade kind number before file =
    (file ≡ option_map (make_after 1 kind number) before) ⊎ (file ≡ option_map (make_after 3 kind number) before)

-- a commit stopped at its first or its second write: the write is pending
abbrev pub IsStopped : ℕ → List ℕ → Option Held → Option Held → Type 0
IsStopped gate content before file =
    (file ≡ option_map (commit_after 1 gate content) before) ⊎ (file ≡ option_map (commit_after 3 gate content) before)

-- a compaction stopped at its first or its second write: the write is pending
abbrev pub IsHalfCompacted : ℕ → List ℕ → Option Held → Option Held → Type 0
IsHalfCompacted area piece before file =
    (file ≡ option_map (compact_after 1 area piece) before) ⊎ (file ≡ option_map (compact_after 3 area piece) before)

-- a journal that was made, all of it synced, whose area in use begins there and which opens with these contents
pub record IsFile (kind number start : ℕ) (contents : List (List ℕ)) (held : Held) : Type 0 where
  pub synced : held ≡ durable held.bytes
  pub made : is_made held.bytes ≡ true
  pub area : start_of held.bytes ≡ start
  pub opened : opens kind number held.bytes ≡ Ok contents
