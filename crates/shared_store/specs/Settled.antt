-- What a store's refusal of a turn's records means.
use Rattle.std.specs.Prelude.{ℕ, Option, Some, None}
use Rattle.end_store.specs.declared.store.StoreStop.{StoreStop}
use Rattle.end_store.specs.declared.store.StoreStop.TheVariants as store
use Rattle.step_hub.specs.declared.stop.Stop.{Stop}
use Rattle.step_hub.specs.declared.stop.Stop.TheVariants as stop
use Rattle.step_hub.specs.declared.stop.StepError.{StepError}
use Rattle.step_hub.specs.declared.stop.StepError.TheVariants as error

-- the stop of what had none: a fault, or so many records that were wanted
abbrev pub stop_by : StoreStop → ℕ → Option Stop
stop_by store.StoreFault wanted = Some stop.Fault
stop_by (store.StoreFull records) wanted = Some (stop.Full records wanted)
stop_by store.Halted wanted = None
stop_by store.NoMemory wanted = None

-- the answer
abbrev pub error_by : StoreStop → StepError
error_by store.StoreFault = error.StoreFault
error_by (store.StoreFull records) = error.StoreFull records
error_by store.Halted = error.Halted
error_by store.NoMemory = error.NoMemory
