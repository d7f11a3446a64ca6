-- Why a pool ends, and what shows it.
use Rattle.std.specs.Prelude.{◌≡◌, ℕ, ◌<◌, Option, Some, None}
use Rattle.wire_base.specs.Causes.{Rose}
use Rattle.disk_core.specs.Disk.{Held}
use Rattle.port_events.specs.declared.giving.TurnFault.{TurnFault}
use Rattle.port_events.specs.declared.giving.TurnFault.TheVariants as turn
use Rattle.step_hub.specs.declared.stop.Stop.{Stop}
use Rattle.step_hub.specs.declared.stop.Stop.TheVariants as stop
use Rattle.step_hub.specs.declared.stop.StepError.{StepError}
use Rattle.node_run.specs.declared.faults.NodeFault.{NodeFault}
use Rattle.node_run.specs.declared.faults.NodeFault.TheVariants as node
use Rattle.held_ports.specs.Around.{PortCounts}
use Rattle.node_run.specs.Faults.{Faults, faults}
use Rattle.shared_store.specs.Stops.{HoldsRecords}

-- the stop of a hub
abbrev pub fault_of_stop : Stop → NodeFault
fault_of_stop stop.Fault = node.StoreFault
fault_of_stop (stop.Full records wanted) = node.StoreFull records

-- of a turn that was refused or memory that was wanting: the hub's stop goes before that
abbrev pub refusal_of : Option Stop → NodeFault
refusal_of None = node.NoMemory
refusal_of (Some s) = fault_of_stop s

-- and a fault of a port before both
abbrev pub turn_fault : TurnFault StepError → Option Stop → NodeFault
turn_fault turn.LinkFault s = node.LinkFault
turn_fault turn.EtherFault s = node.EtherFault
turn_fault turn.UplinkFault s = node.UplinkFault
turn_fault turn.NoMemory s = refusal_of s
turn_fault (turn.Stopped e) s = refusal_of s

abbrev pub pool_fault : Option (TurnFault StepError) → Option Stop → Option NodeFault
pool_fault (Some f) s = Some (turn_fault f s)
pool_fault None (Some s) = Some (fault_of_stop s)
pool_fault None None = None

-- the counts of faults of the disk and of the ports
abbrev pub with_disk : ℕ → PortCounts → Faults
with_disk disk counts = faults disk counts.link counts.ether counts.up

-- A fault is told only where the count of that object rose. Where it is none of a port, no port's count rose; and where it is none of a port
-- or the disk, no count did. A store is full only where the journal on the disk has so many records, and they are so many that those of one
-- turn may not fit.
abbrev pub PoolBlames : Faults → Faults → Option Held → Option NodeFault → Type 0
PoolBlames old new held None = new ≡ old
PoolBlames old new held (Some node.StoreFault) = Rose old.disk new.disk × (new ≡ record old { disk = new.disk })
PoolBlames old new held (Some node.LinkFault) = Rose old.link new.link × (new ≡ record old { disk = new.disk; link = new.link })
PoolBlames old new held (Some node.EtherFault) = Rose old.ether new.ether × (new ≡ record old { disk = new.disk; ether = new.ether })
PoolBlames old new held (Some node.UplinkFault) = Rose old.up new.up × (new ≡ record old { disk = new.disk; up = new.up })
PoolBlames old new held (Some (node.StoreFull records)) = (1032192 < records) × HoldsRecords records held × (new ≡ old)
PoolBlames old new held (Some node.NoMemory) = new ≡ old
