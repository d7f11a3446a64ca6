-- What a pool did.
use Rattle.std.specs.Prelude.{ℕ, ◌≡◌, Bool, List, length, Option}
use Rattle.session_workers.specs.declared.finished.Finished.{Finished}
use Rattle.worker_pool.specs.declared.tally.Tally.{Tally}
use Rattle.worker_pool.specs.Tallies.{tally_of}
use Rattle.held_ports.specs.Around.{Around}
use Rattle.pool_turns.specs.Turns.{Put, RanTo}

-- All of its turns were made, or as many as before it stopped. Each datagram that was put was finished, and is counted once, by what became of
-- it.
pub record RanPool {F : Type 0} (fault : Option F) (opens : Bool) (turns : ℕ) (tally : Tally) (old new : Around) : Type 0 where
  pub ps : List Put
  pub ran : RanTo fault opens turns ps old new
  pub finished : List Finished
  pub each : length finished ≡ length ps
  pub counted : tally ≡ tally_of finished
