-- What outputs are to the ports.
use Rattle.std.specs.Prelude.{ℕ, ◌≡◌, List, [], ◌∷◌, ◌++◌, Option, Result, Ok, Err}
use Rattle.std.specs.List.{flat_map}
use Rattle.wire_base.specs.Causes.{Rose}
use Rattle.port_traits.specs.declared.packets.Datagram.{Datagram}
use Rattle.port_traits.specs.declared.packets.LowerFrame.{LowerFrame}
use Rattle.port_traits.specs.Packets.{Gains}
use Rattle.port_events.specs.declared.end.Out.{Out}
use Rattle.port_events.specs.declared.end.Out.TheVariants.{Send, Ether, Up, Drop}
use Rattle.port_events.specs.declared.giving.TurnFault.{TurnFault}
use Rattle.port_events.specs.declared.giving.TurnFault.TheVariants.{LinkFault, EtherFault, UplinkFault, NoMemory, Stopped}

-- the part of an output that goes to each port
abbrev pub to_link : Out → List Datagram
to_link (Send peer bytes) = record { peer = peer; bytes = bytes } ∷ []
to_link _ = []

abbrev pub to_ether : Out → List (List ℕ)
to_ether (Ether bytes) = bytes ∷ []
to_ether _ = []

abbrev pub to_up : Out → List LowerFrame
to_up (Up session frame) = record { session = session; frame = frame } ∷ []
to_up _ = []

-- the ports were given these outputs, in order, where they tell it
pub record Gave (link_old link_new : Option (List Datagram)) (ether_old ether_new : Option (List (List ℕ)))
    (up_old up_new : Option (List LowerFrame)) (outs : List Out) : Type 0 where
  pub link : Gains link_old link_new (flat_map to_link outs)
  pub ether : Gains ether_old ether_new (flat_map to_ether outs)
  pub up : Gains up_old up_new (flat_map to_up outs)

module _ {F : Type 0} where
  -- the fault is that of the port to which an output goes
  abbrev pub FailsAt : TurnFault F → Out → Type 0
  FailsAt fault (Send peer bytes) = fault ≡ LinkFault
  FailsAt fault (Ether bytes) = fault ≡ EtherFault
  FailsAt fault (Up session frame) = fault ≡ UplinkFault
  FailsAt fault Drop = ⊥

  -- a part of outputs went out, and at the next one its port failed
  pub record IsCut (fault : TurnFault F) (outs part : List Out) : Type 0 where
    pub next : Out
    pub left : List Out
    pub outs_are : outs ≡ part ++ next ∷ left
    pub fails : FailsAt fault next

  -- a fault of what is around an end: a port failed, or memory was wanting for what it gave
  abbrev pub IsAround : TurnFault F → Type 0
  IsAround LinkFault = Unit {0}
  IsAround EtherFault = Unit {0}
  IsAround UplinkFault = Unit {0}
  IsAround NoMemory = Unit {0}
  IsAround (Stopped stop) = ⊥

  -- a fault of a port is told only where the count of that port rose, and the other counts stay
  abbrev pub Blames : {T : Type 0} → ℕ → ℕ → ℕ → ℕ → ℕ → ℕ → Result T (TurnFault F) → Type 0
  Blames link_old link_new ether_old ether_new up_old up_new (Ok x) = (link_new ≡ link_old) × (ether_new ≡ ether_old) × (up_new ≡ up_old)
  Blames link_old link_new ether_old ether_new up_old up_new (Err LinkFault) = Rose link_old link_new × (ether_new ≡ ether_old) × (up_new ≡ up_old)
  Blames link_old link_new ether_old ether_new up_old up_new (Err EtherFault) = (link_new ≡ link_old) × Rose ether_old ether_new × (up_new ≡ up_old)
  Blames link_old link_new ether_old ether_new up_old up_new (Err UplinkFault) = (link_new ≡ link_old) × (ether_new ≡ ether_old) × Rose up_old up_new
  Blames link_old link_new ether_old ether_new up_old up_new (Err NoMemory) = (link_new ≡ link_old) × (ether_new ≡ ether_old) × (up_new ≡ up_old)
  Blames link_old link_new ether_old ether_new up_old up_new (Err (Stopped stop)) = (link_new ≡ link_old) × (ether_new ≡ ether_old) × (up_new ≡ up_old)

  -- the fault of one port, only where its count rose; that memory was wanting, and any other answer, only where it stayed
  abbrev pub BlamesOne : {T : Type 0} → ℕ → ℕ → TurnFault F → Result T (TurnFault F) → Type 0
  BlamesOne old new fault (Ok x) = new ≡ old
  BlamesOne old new fault (Err NoMemory) = new ≡ old
  BlamesOne old new fault (Err other) = (other ≡ fault) × Rose old new
