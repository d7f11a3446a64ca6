-- Why a node ends, and what shows it.
use Rattle.std.specs.Prelude.{⊤, ◌≡◌, ℕ, Result, Ok, Err}
use Rattle.wire_base.specs.Causes.{Rose}
use Rattle.end_store.specs.declared.store.StoreStop.{StoreStop}
use Rattle.end_store.specs.declared.store.StoreStop.TheVariants as stop
use Rattle.port_events.specs.declared.giving.TurnFault.{TurnFault}
use Rattle.port_events.specs.declared.giving.TurnFault.TheVariants as turn
use Rattle.node_run.specs.declared.end.NodeStop.{NodeStop}
use Rattle.node_run.specs.declared.end.NodeStop.TheVariants.{Store, Unsent}
use Rattle.node_run.specs.declared.faults.NodeFault.{NodeFault}
use Rattle.node_run.specs.declared.faults.NodeFault.TheVariants as node

abbrev pub of_store : StoreStop → NodeFault
of_store stop.StoreFault = node.StoreFault
of_store stop.Halted = node.StoreFault
of_store (stop.StoreFull records) = node.StoreFull records
of_store stop.NoMemory = node.NoMemory

abbrev pub of_stop : NodeStop → NodeFault
of_stop (Store s) = of_store s
of_stop Unsent = node.NoMemory

abbrev pub node_fault : TurnFault NodeStop → NodeFault
node_fault turn.LinkFault = node.LinkFault
node_fault turn.EtherFault = node.EtherFault
node_fault turn.UplinkFault = node.UplinkFault
node_fault turn.NoMemory = node.NoMemory
node_fault (turn.Stopped s) = of_stop s

-- the counts of faults of the disk and of the ports
pub record Faults : Type 0 where
  pub disk : ℕ
  pub link : ℕ
  pub ether : ℕ
  pub up : ℕ

abbrev pub faults : ℕ → ℕ → ℕ → ℕ → Faults
faults disk link ether up = record { disk = disk; link = link; ether = ether; up = up }

-- a fault of the disk or of a port is told only where the count of that object rose, and the other counts stay
abbrev pub NodeBlames : Faults → Faults → Result ⊤ NodeFault → Type 0
NodeBlames old new (Ok done) = new ≡ old
NodeBlames old new (Err node.StoreFault) = Rose old.disk new.disk × (new ≡ record old { disk = new.disk })
NodeBlames old new (Err node.LinkFault) = Rose old.link new.link × (new ≡ record old { link = new.link })
NodeBlames old new (Err node.EtherFault) = Rose old.ether new.ether × (new ≡ record old { ether = new.ether })
NodeBlames old new (Err node.UplinkFault) = Rose old.up new.up × (new ≡ record old { up = new.up })
NodeBlames old new (Err (node.StoreFull records)) = new ≡ old
NodeBlames old new (Err node.NoMemory) = new ≡ old

-- the answer of a turn, in the words of a node
abbrev pub told : Result ⊤ (TurnFault NodeStop) → Result ⊤ NodeFault
told (Ok done) = Ok done
told (Err fault) = Err (node_fault fault)
