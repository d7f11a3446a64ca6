-- Why a pool stops, and what shows it.
use Rattle.std.specs.Prelude.{⊤, Bool, true, false, Option, Some, None, Result, Ok, Err, if◌then◌else◌}
use Rattle.step_hub.specs.declared.stop.StepError.{StepError}
use Rattle.port_events.specs.declared.giving.TurnFault.{TurnFault}
use Rattle.port_events.specs.declared.giving.TurnFault.TheVariants.{LinkFault, EtherFault, UplinkFault, NoMemory, Stopped}
use Rattle.port_events.specs.Giving.{Blames}
use Rattle.held_ports.specs.Around.{PortCounts}

-- a fault is that of a port, which goes before all others
abbrev pub is_of_port : TurnFault StepError → Bool
is_of_port LinkFault = true
is_of_port EtherFault = true
is_of_port UplinkFault = true
is_of_port NoMemory = false
is_of_port (Stopped stop) = false

-- a port failed
abbrev pub is_cut_off : Option (TurnFault StepError) → Bool
is_cut_off None = false
is_cut_off (Some fault) = is_of_port fault

-- the fault that counts of an earlier and a later one
abbrev pub then_fault : Option (TurnFault StepError) → TurnFault StepError → TurnFault StepError
then_fault None later = later
then_fault (Some earlier) later = if is_of_port earlier then earlier else if is_of_port later then later else earlier

-- after another outcome
abbrev pub fault_then : Option (TurnFault StepError) → Result ⊤ (TurnFault StepError) → Option (TurnFault StepError)
fault_then earlier (Ok x) = earlier
fault_then earlier (Err later) = Some (then_fault earlier later)

abbrev pub told_by : Option (TurnFault StepError) → Result ⊤ (TurnFault StepError)
told_by None = Ok tt
told_by (Some fault) = Err fault

-- something stopped it
abbrev pub has_stopped : Result ⊤ (TurnFault StepError) → Bool
has_stopped (Ok x) = false
has_stopped (Err fault) = true

-- this holds, unless a port failed
abbrev pub OnCalm : Result ⊤ (TurnFault StepError) → Type 0 → Type 0
OnCalm (Ok x) fact = fact
OnCalm (Err LinkFault) fact = Unit {0}
OnCalm (Err EtherFault) fact = Unit {0}
OnCalm (Err UplinkFault) fact = Unit {0}
OnCalm (Err NoMemory) fact = fact
OnCalm (Err (Stopped stop)) fact = fact

-- a fault of a port is told only where the count of that port rose, and the other counts stay; without one all stay
abbrev pub AreBlamed : PortCounts → PortCounts → Option (TurnFault StepError) → Type 0
AreBlamed old new fault = Blames old.link new.link old.ether new.ether old.up new.up (told_by fault)
