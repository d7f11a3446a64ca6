-- What a hub's answers say.
use Rattle.std.specs.Prelude.{◌≡◌, ℕ, ◌+◌, ◌<◌, ◌≤◌, Bool, true, false, List, [], length, Option, Some, None, Result, Ok, Err}
use Rattle.wire_base.specs.Causes.{Rose}
use Rattle.end_model.specs.Tunnels.{Drawing, Env}
use Rattle.end_model.specs.declared.tunnel.Mode.TheVariants.{Current}
use Rattle.step_hub.specs.declared.stop.Stop.{Stop}
use Rattle.step_hub.specs.declared.stop.Stop.TheVariants as stop
use Rattle.step_hub.specs.declared.stop.StepError.{StepError}
use Rattle.step_hub.specs.declared.stop.StepError.TheVariants as error

-- how many records one turn may leave, and how many a checkpoint may have
abbrev pub most_of_turn : ℕ
most_of_turn = 16384

abbrev pub most_records : ℕ
most_records = 1048576

-- what a turn works in that draws from these spaces: this moment, this block, and nothing given yet
abbrev pub lent_env : Drawing → ℕ → List ℕ → Env
lent_env ids moment block = record {
  on = record { moment = moment; block = block; mode = Current };
  ids = ids;
  outputs = [];
  changes = [];
  moves = [];
}

abbrev pub IsLentAs : Drawing → ℕ → List ℕ → Env → Type 0
IsLentAs ids moment block env = env ≡ lent_env ids moment block

-- why nothing is lent: exactly where there is a stop, it is that
abbrev pub IsRefusal : Bool → StepError → Type 0
IsRefusal true e = e ≡ error.Halted
IsRefusal false e = e ≡ error.NoMemory

-- What became of a turn that leaves so many records, of a hub that had no stop: how many records it had before and has after, its stop, and
-- the faults that it had counted before and has after. A record that isn't in place isn't kept.
abbrev pub Settles : {T : Type 0} → Result T StepError → ℕ → ℕ → ℕ → Option Stop → ℕ → ℕ → Type 0
Settles (Ok given) count before after s faults now =
    (before ≤ after) × (after ≤ before + count) × (count ≤ most_of_turn) × (before + count ≤ most_records) × (s ≡ None) × (now ≡ faults)
Settles (Err error.StoreFault) count before after s faults now = (s ≡ Some stop.Fault) × Rose faults now
Settles (Err (error.StoreFull records)) count before after s faults now =
    (after ≡ before) × (records ≡ before) × (count ≤ most_of_turn) × (most_records < before + count) × (s ≡ Some (stop.Full before count)) × (now ≡ faults)
Settles (Err error.Halted) count before after s faults now = ⊥
Settles (Err error.NoMemory) count before after s faults now = (after ≡ before) × (s ≡ None) × (now ≡ faults)
