-- Each frame that is handed up in a call was sent in that call by its other end.
use Rattle.std.specs.Prelude.{◌≡◌, false, ◌+◌, ◌-◌, ◌<◌, List, ◌∷◌, ◌++◌, length, take, drop, Option, Some, Ok, ℕ, slice_get}
use Rattle.id_table.specs.Ids.{at}
use Rattle.pppoe_discovery.specs.declared.outcome.Discovered.TheVariants.{Carried}
use Rattle.end_model.specs.Access.{Access}
use Rattle.world_model.specs.declared.held.Held.{Held}
use Rattle.world_model.specs.World.{World, Node, Sender, block_of, stepped, held_at, taken_up, behind_up, line}
use Rattle.step_laws.specs.Hosts.{discovered_at, IsOfHost}
use Rattle.std.specs.List.{AllByRecursion}
use Rattle.l2tp_header.specs.Spelling.{data_bytes}
use Rattle.l2tp_header.specs.Grammar.{FitsWord}
use Rattle.schedule_text.specs.declared.line.Line.{Line}
use Rattle.schedule_text.specs.declared.line.Line.TheVariants.{FromSub, Down, Frame, Hand, Start}
use Rattle.schedule_text.specs.Grammar.{AreLines}
use Rattle.end_model.specs.declared.event.Event.{Event}
use Rattle.end_model.specs.declared.event.Event.TheVariants.{Datagram, Lcp, OpenTunnel}
use Rattle.end_model.specs.declared.moves.Move.{Move}
use Rattle.end_model.specs.declared.moves.Move.TheVariants.{FrameSent}
use Rattle.end_model.specs.declared.tunnel.Call.{Call}
use Rattle.end_names.specs.declared.role.Role.{Role}
use Rattle.end_names.specs.declared.role.Role.TheVariants.{Lac, Lns}
use Rattle.end_model.specs.declared.out.Origin.TheVariants.{Data}
use Rattle.world_model.specs.declared.packet.Packet.{Packet}
use Rattle.end_names.specs.Names.{node_of}
use Rattle.end_model.specs.Secrets.{uncovered_event}
use Rattle.end_model.specs.Calls.{number_of}
use Rattle.end_model.specs.Tunnels.{Tunnel}
use Rattle.end_model.specs.End.{End, plain_step}
use Rattle.end_model.specs.Starting.{starts}
use Rattle.world_model.specs.Run.{run}
use Rattle.step_laws.specs.Letters.{Among}
use Rattle.step_laws.specs.Links.{GivesFrame}
use Rattle.step_laws.specs.Moves.{Chain}
use Rattle.frame_laws.specs.Past.{Passage, Past, past_of}

abbrev pub other_end : Role → Role
other_end Lac = Lns
other_end Lns = Lac

-- what was handed up is what was sent: the same frame, in a call of the same birth, by its other end, at an earlier line
pub record IsOf (sent handed : Passage) : Type 0 where
  pub frame : handed.frame ≡ sent.frame
  pub birth : handed.birth ≡ sent.birth
  -- births are counted from 1
  pub born : 0 < handed.birth
  pub end : handed.role ≡ other_end sent.role
  -- the call's tunnel goes from each of the two nodes to the other
  pub sender : handed.peer ≡ sent.node
  pub receiver : sent.peer ≡ handed.node
  pub earlier : sent.line < handed.line

-- a frame that was handed up is one of those that were sent
pub record WasSent (sent : List Passage) (handed : Passage) : Type 0 where
  pub passage : Passage
  pub there : Among passage sent
  pub is : IsOf passage handed

-- each frame that was handed up
abbrev pub AreSent : Past → Type 0
AreSent past = AllByRecursion (WasSent past.sent) past.handed

-- a frame that counts as sent is one that a packet carries, from its node to the one that the call's tunnel goes to
pub record IsCarried (packets : List Packet) (g : Passage) : Type 0 where
  pub packet : Packet
  pub there : Among packet packets
  pub from : packet.from ≡ g.node
  pub to : packet.to ≡ g.peer
  pub origin : packet.origin ≡ Data g.session
  -- the ids of the header
  pub tunnel : ℕ
  pub session : ℕ
  -- no number, or some Ns of 16 bits with an Nr of 0
  pub number : Option ℕ
  pub number_fits : FitsWord number
  pub bytes : packet.bytes ≡ data_bytes tunnel session number g.frame

-- the line that gives a frame to an end: a subscriber's at a LAC, the network's at an LNS
abbrev pub gives_frame : Role → ℕ → ℕ → List ℕ → Line
gives_frame Lac n session frame = FromSub n session frame
gives_frame Lns n session frame = Down n session frame

-- the session frame in an Ethernet frame that comes to a LAC: its session is that of a live call, whose host is the source
pub record GivesByFrame (w : World) (g : Passage) (bytes : List ℕ) : Type 0 where
  pub node : Node
  pub there : at w.nodes g.node ≡ Some node
  pub access : Access
  pub keeps : node.access ≡ Some access
  pub src : List ℕ
  pub start : ℕ
  pub stop : ℕ
  pub found : discovered_at access node.end bytes ≡ Carried src g.session start stop
  pub of_host : IsOfHost access node.end src g.session
  pub frame : g.frame ≡ take (stop - start) (drop start bytes)

-- of the moves by which an end answers an event, as it reads it, or starts, one sends a frame that the link of its call gives: those
-- before it lead to an end in which the call has a link that, as it is called then, gives the frame
pub record GivesInMoves (e : End) (moment : ℕ) (ev : Event) (moves : List Move) (g : Passage) : Type 0 where
  pub first : List Move
  pub end : End
  pub leads : Chain moment ev e first end
  -- the tunnel, to the node that the frame goes to, and its call
  pub id : ℕ
  pub tunnel : Tunnel
  pub in_end : at end.tunnels id ≡ Some tunnel
  pub peer : g.peer ≡ node_of tunnel.control.peer
  pub call : Call
  pub live : at tunnel.calls g.session ≡ Some call
  pub gives : GivesFrame ev moment tunnel.control g.session call g.frame
  -- the move that sends the frame, and those behind it
  pub rest : List Move
  pub moves_are : moves ≡ first ++ FrameSent (record {
    tunnel = id;
    peer = tunnel.control.peer;
    session = g.session;
    remote = call.remote;
    number = number_of call.sequence;
    frame = g.frame;
  }) ∷ rest

-- an event that isn't a datagram
abbrev pub IsNoDatagram : Event → Type 0
IsNoDatagram (Datagram peer bytes) = ⊥
IsNoDatagram ev = Unit {0}

-- in the step of an end
abbrev pub GivesInStep : End → ℕ → List ℕ → Event → Passage → Type 0
GivesInStep e moment block ev g = GivesInMoves e moment ev (plain_step e moment block ev).moves g

-- a line has a node make a step: it is that step, or it hands up a frame of LCP that the node holds, and the step comes behind
pub data MakesStep (w : World) (number : ℕ) (l : Line) (n : ℕ) (ev : Event) (sender : Option Sender) (node : Node) : Type 0 where
  ByItself : line w number l ≡ stepped w number n ev sender (Ok node) → MakesStep w number l n ev sender node
  BehindUp : (held : ℕ) (f : Held) → l ≡ Hand n held → at (held_at w n) held ≡ Some f → ev ≡ Lcp f.session f.frame
      → line w number l ≡ behind_up number n node.end.role f (stepped (taken_up w n held) number n ev sender (Ok node))
      → MakesStep w number l n ev sender node

-- so it is in the step that the passage's node makes of a line
pub record GivesByLink (w : World) (l : Line) (g : Passage) : Type 0 where
  -- the node in the world, and as the line has it: its clock may have gone on
  pub before : Node
  pub there : at w.nodes g.node ≡ Some before
  pub node : Node
  pub same : node ≡ record before { clock = node.clock }
  -- what the line brings it, and the tunnel that sent that
  pub event : Event
  pub sender : Option Sender
  pub steps : MakesStep w g.line l g.node event sender node
  pub in_step : GivesInStep node.end node.clock (block_of g.node g.line) (uncovered_event node.end.config.secret event) g

-- so it is in the start of the passage's node, over its book. Nothing comes in a start; it is said with an event on which no link is called
pub record GivesByStart (w : World) (g : Passage) : Type 0 where
  pub node : Node
  pub there : at w.nodes g.node ≡ Some node
  pub down : node.up ≡ false
  pub in_start : GivesInMoves node.end node.clock OpenTunnel
      (starts node.end.role node.end.config node.checkpoint.book node.clock (block_of g.node g.line)).moves g

-- a frame that counts as sent is one that its line gave to its end in its call; or at a LAC one that the host of that call sent in an
-- Ethernet frame which its line brings; or at an LNS one that the link of that call gave on what its line brings, or as the call came
-- back in a start, which no line spells. The world is as it was before the line
pub data IsGiven (lines : List Line) (g : Passage) : Type 0 where
  ByItsLine : slice_get lines (g.line - 1) ≡ Some (gives_frame g.role g.node g.session g.frame) → IsGiven lines g
  ByItsHost : (before after : List Line) (bytes : List ℕ) → lines ≡ before ++ Frame g.node bytes ∷ after → g.line ≡ length before + 1
      → g.role ≡ Lac
      → GivesByFrame (run before).world g bytes → IsGiven lines g
  ByItsLink : (before after : List Line) (l : Line) → lines ≡ before ++ l ∷ after → g.line ≡ length before + 1 → g.role ≡ Lns
      → GivesByLink (run before).world l g → IsGiven lines g
  ByItsStart : (before after : List Line) → lines ≡ before ++ Start g.node ∷ after → g.line ≡ length before + 1 → g.role ≡ Lns
      → GivesByStart (run before).world g → IsGiven lines g

-- in the run of each list of lines of the grammar, whatever crashes, and whether each line fits or one ends the run
abbrev pub FramesOfRuns : Type 0
FramesOfRuns = (lines : List Line) → AreLines lines → AreSent (past_of lines)

abbrev pub PacketsOfRuns : Type 0
PacketsOfRuns = (lines : List Line) → AreLines lines → AllByRecursion (IsCarried (run lines).world.packets) (past_of lines).sent

abbrev pub GivenInRuns : Type 0
GivenInRuns = (lines : List Line) → AreLines lines → AllByRecursion (IsGiven lines) (past_of lines).sent
