-- How many items were taken, and what became of their datagrams.
use Rattle.std.specs.Prelude.{◌≡◌, ℕ, ◌+◌, ◌-◌, ◌^◌, min, List, length, Option, Some, None}
use Rattle.data_plane.specs.declared.carry.Carry.{Carry}
use Rattle.data_plane.specs.declared.carry.Carry.TheVariants.{Up, Dropped}
use Rattle.session_workers.specs.declared.finished.Finished.{Finished}
use Rattle.session_workers.specs.Done.{carried_of}
use Rattle.session_workers.specs.Finishing.{finished_numbers}
use Rattle.session_workers.specs.Lists.{total}
use Rattle.worker_pool.specs.declared.tally.Tally.{Tally}

-- as a number of 64 bits that stands still at its end
abbrev pub capped : ℕ → ℕ
capped n = min n (2 ^ 64 - 1)

-- 1 where a frame goes up
abbrev pub up_in : Option Carry → ℕ
up_in (Some (Up session side start stop)) = 1
up_in (Some (Dropped why)) = 0
up_in None = 0

-- 1 where a frame is dropped
abbrev pub dropped_in : Option Carry → ℕ
dropped_in (Some (Up session side start stop)) = 0
dropped_in (Some (Dropped why)) = 1
dropped_in None = 0

abbrev pub up_of : Finished → ℕ
up_of f = up_in (carried_of f.done)

abbrev pub dropped_of : Finished → ℕ
dropped_of f = dropped_in (carried_of f.done)

abbrev pub tally_of : List Finished → Tally
tally_of fs = record { taken = capped (length fs); up = capped (total up_of fs); dropped = capped (total dropped_of fs) }

abbrev pub counted : Tally → Finished → Tally
counted t f = record { taken = capped (t.taken + 1); up = capped (t.up + up_of f); dropped = capped (t.dropped + dropped_of f) }

abbrev pub added : Tally → Tally → Tally
added t u = record { taken = capped (t.taken + u.taken); up = capped (t.up + u.up); dropped = capped (t.dropped + u.dropped) }

-- it is of items that have these numbers
abbrev pub IsTallyOf : List ℕ → Tally → Type 0
IsTallyOf numbers t = (fs : List Finished) × (numbers ≡ finished_numbers fs) × (t ≡ tally_of fs)
