-- Whom an end hands frames up to, and tells that their calls ended, and what its turns give to the ports by that.
use Rattle.std.specs.Prelude.{ℕ, ◌≡◌, Bool, true, false, List, ◌∷◌, ◌++◌, map, Option, Some, None, is_none}
use Rattle.wire_base.specs.declared.letter.Side.{Side}
use Rattle.wire_base.specs.declared.letter.Side.TheVariants.{Sub, Net, Lcp}
use Rattle.pppoe_wire.specs.Spelling.{Head}
use Rattle.pppoe_session.specs.declared.Subscriber.{Subscriber}
use Rattle.pppoe_session.specs.Subscribers.{subscriber, subscriber_of, holder_of, dropped}
use Rattle.end_names.specs.Names.{mac_of}
use Rattle.end_model.specs.declared.out.Out.{Out}
use Rattle.end_model.specs.declared.out.Out.TheVariants as given
use Rattle.end_model.specs.Access.{Access, holds, farewell}
use Rattle.port_events.specs.declared.end.Out.{Out as Going}
use Rattle.port_events.specs.declared.end.Out.TheVariants as going
use Rattle.port_events.specs.declared.giving.TurnFault.{TurnFault}
use Rattle.port_events.specs.declared.giving.TurnFault.TheVariants.{LinkFault, EtherFault, UplinkFault, NoMemory, Stopped}
use Rattle.held_ports.specs.Around.{Around, Gives}
use Rattle.node_run.specs.Outs.{by_ether}

pub record Hosted : Type 0 where
  -- the number of the node
  pub number : ℕ
  -- what a LAC knows of its hosts; an LNS has none
  pub access : Access
  -- the six bytes of the subscribers of calls, as their tunnels told them
  pub told : List (ℕ × Subscriber)

-- whoever was told stays told
abbrev pub KeepsTold : Hosted → Hosted → Type 0
KeepsTold old new = (session : ℕ) (mac : List ℕ) → holder_of old.told session ≡ Some mac → holder_of new.told session ≡ Some mac

-- where a session is given to a host that rings, if one is, and taken back where it was given
abbrev pub held_with : List (ℕ × Subscriber) → Option ℕ → List ℕ → Option (List ℕ) → List (ℕ × Subscriber)
held_with es None mac uniq = es
held_with es (Some session) mac uniq = holds es session (subscriber mac uniq)

-- whether it is given: where one is drawn, and nobody holds it
abbrev pub gives_some : List (ℕ × Subscriber) → Option ℕ → Bool
gives_some es None = false
gives_some es (Some session) = is_none (subscriber_of es session)

abbrev pub let_go_of : Bool → Option ℕ → List (ℕ × Subscriber) → List (ℕ × Subscriber)
let_go_of true (Some session) es = dropped es session
let_go_of true None es = es
let_go_of false session es = es

-- the head of a session frame with a payload of so many bytes (RFC 2516 section 6)
abbrev pub session_head : ℕ → List ℕ → ℕ → ℕ → Head
session_head node host session said = record { dst = host; src = mac_of node; ethertype = 0x8864; version = 0x11; code = 0; session = session; said = said }

-- A frame that a turn hands up goes to the network, or nowhere: those to subscribers come in data messages, which are none of a turn's.
abbrev pub up_out : ℕ → Side → List ℕ → Going
up_out session Sub frame = going.Drop
up_out session Net frame = going.Up session frame
up_out session Lcp frame = going.Drop

-- the host of a call that ended is told by a PADT
abbrev pub turn_out : Hosted → Out → Going
turn_out h (given.Send peer bytes origin) = going.Send peer bytes
turn_out h (given.Up session side frame) = up_out session side frame
turn_out h (given.Gone session) = by_ether (farewell h.number h.access session)
turn_out h (given.Drop why) = going.Drop
turn_out h (given.Cause cause) = going.Drop

abbrev pub turn_outs : Hosted → List Out → List Going
turn_outs h outs = map (turn_out h) outs

-- a port failed
abbrev pub IsOfPort : {F : Type 0} → TurnFault F → Type 0
IsOfPort LinkFault = Unit {0}
IsOfPort EtherFault = Unit {0}
IsOfPort UplinkFault = Unit {0}
IsOfPort NoMemory = ⊥
IsOfPort (Stopped stop) = ⊥

-- a front of what was to go out did, and one that stands behind it didn't
pub record IsFront (outs : List Going) (old new : Around) : Type 0 where
  pub part : List Going
  pub next : Going
  pub left : List Going
  pub outs_are : outs ≡ part ++ next ∷ left
  pub gives : Gives part old new
