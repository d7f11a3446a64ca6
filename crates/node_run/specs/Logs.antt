-- What a node's log is told.
use Rattle.std.specs.Prelude.{◌≡◌, ◌≢◌, ◌⊎◌, ℕ, List, [], take, codes, Option}
use Rattle.std.specs.Io.KnownBytes.{Appends}
use Rattle.wire_base.specs.Causes.{Rose}

-- how often a sink failed, and what it took, where it tells it
pub record Sunk : Type 0 where
  pub faults : ℕ
  pub taken : Option (List ℕ)

abbrev pub sunk : ℕ → Option (List ℕ) → Sunk
sunk faults taken = record { faults = faults; taken = taken }

-- a sink took a text, or it failed and took a front of it
abbrev pub Takes : List ℕ → Sunk → Sunk → Type 0
Takes text old new =
    ((new.faults ≡ old.faults) × Appends old.taken new.taken text)
    ⊎ (Rose old.faults new.faults × ((n : ℕ) × Appends old.taken new.taken (take n text)))

-- a text was written, as far as the sink took it; where it is empty the sink wasn't asked
pub record Writes (text : List ℕ) (old new : Sunk) : Type 0 where
  pub takes : Takes text old new
  pub quiet : text ≡ [] → new ≡ old

-- what stands in the place of lines for which memory was wanting
abbrev pub lost_text : List ℕ
lost_text = codes "lines lost for want of memory\n"

-- a sink has what it had, and maybe more behind it
abbrev pub Grows : Sunk → Sunk → Type 0
Grows old new = (more : List ℕ) × Appends old.taken new.taken more

abbrev pub LogsStay : Type 0
LogsStay = (s : Sunk) → Grows s s

abbrev pub LogsGrow : Type 0
LogsGrow = (s t u : Sunk) → Grows s t → Grows t u → Grows s u

-- the lines were written; or there are some, and memory was wanting for them
abbrev pub Noted : List ℕ → Sunk → Sunk → Type 0
Noted lines old new = Writes lines old new ⊎ ((lines ≢ []) × Writes lost_text old new)
