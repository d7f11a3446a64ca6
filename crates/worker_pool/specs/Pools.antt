-- What a clause says of a pool and its passes.
use Rattle.std.specs.Prelude.{◌≡◌, ℕ, ◌+◌, [], ◌∷◌, ◌++◌, length, All, Option, Some, None}
use Rattle.crossbeam_queue.specs.Fifo.{Held}
use Rattle.step_hub.specs.declared.hub.Hub.{Ghosts}
use Rattle.session_workers.specs.Items.{IsPut, Tells, all_parts, numbers_of}
use Rattle.session_workers.specs.Finishing.{Evens}
use Rattle.session_workers.specs.Lists.{total, times}
use Rattle.session_workers.specs.Passes.{items_of, finished_of, known_of, took_of, taken_of, made_of, gave_of, got_of, origins_of, IsPassIn, IsOpener, EachOnce}
use Rattle.session_workers.specs.declared.finished.Finished.{Finished}
use Rattle.worker_pool.specs.declared.pool.Pool.{Pool}
use Rattle.worker_pool.specs.declared.pass.PoolPass.{PoolPass}
use Rattle.worker_pool.specs.Tallies.{capped, tally_of}

-- how many items a pass worked or collected
abbrev pub ends_of : PoolPass → ℕ
ends_of p = length (taken_of p.pass) + length (got_of p.pass)

-- It is a pass of the pool. It made one of each item that it took, each once; its tally counts these, and it knows how many it collected
pub record IsMember {H : Type 0} {G : Ghosts H} (pool : Pool H G) (p : PoolPass) : Type 0 where
  pub of : IsPassIn pool.shared p.pass
  pub once : EachOnce (taken_of p.pass)
  pub took : took_of p.pass ≡ origins_of (made_of p.pass)
  pub tally : p.tally ≡ tally_of (made_of p.pass)
  pub collected : p.collected ≡ capped (length (got_of p.pass))

-- it is the pass of the calling thread, which alone puts, and knows how many it put
pub record IsCaller {H : Type 0} {G : Ghosts H} (pool : Pool H G) (p : PoolPass) : Type 0 where
  pub member : IsMember pool p
  pub opener : IsOpener p.pass
  pub puts : p.puts ≡ length (known_of p.pass)

-- it has as many parts as before
abbrev pub HasParts : PoolPass → PoolPass → Type 0
HasParts old new =
    ((items_of new.pass).parts ≡ (items_of old.pass).parts) × ((finished_of new.pass).parts ≡ (finished_of old.pass).parts)

-- no other pass has a part of either queue
abbrev pub IsAlone : PoolPass → Type 0
IsAlone p = ((items_of p.pass).parts ≡ all_parts) × ((finished_of p.pass).parts ≡ all_parts)

-- each queue was empty at one moment
abbrev pub NothingWaits : PoolPass → Type 0
NothingWaits p = Held 0 (Tells (items_of p.pass)) × Held 0 (Evens (finished_of p.pass))

-- Each item that was put was taken, and what was taken was put. Whatever is counted of what is finished, it is as much of all that was
-- handed over as of all that was collected
abbrev pub AllDone : PoolPass → Type 0
AllDone p =
    ((n : ℕ) → times n (taken_of p.pass) ≡ times n (numbers_of (known_of p.pass)))
    × ((count : Finished → ℕ) → total count (gave_of p.pass) ≡ total count (got_of p.pass))
    × All (IsPut (known_of p.pass)) (took_of p.pass)

-- it made this of one item, or took none
abbrev pub TookOne : PoolPass → PoolPass → Option Finished → Type 0
TookOne old new None = made_of new.pass ≡ made_of old.pass
TookOne old new (Some f) = made_of new.pass ≡ made_of old.pass ++ f ∷ []

-- it worked or collected one item; or each queue was empty at one moment, and it did nothing
abbrev pub FoundOne : PoolPass → PoolPass → Option Finished → Type 0
FoundOne old new None = NothingWaits old × (items_of new.pass ≡ items_of old.pass) × (finished_of new.pass ≡ finished_of old.pass)
FoundOne old new (Some f) = ends_of new ≡ ends_of old + 1
