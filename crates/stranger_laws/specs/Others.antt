-- A datagram touches no tunnel of another peer: of each tunnel all are strangers but its peer.
use Rattle.std.specs.Prelude.{◌≡◌, ℕ, false, List, [], ◌∷◌, Some, Ok}
use Rattle.std.specs.List.{AllByRecursion}
use Rattle.id_table.specs.Ids.{at}
use Rattle.wire_base.specs.declared.letter.Side.{Side}
use Rattle.schedule_text.specs.declared.line.Line.{Line}
use Rattle.schedule_text.specs.Grammar.{AreLines}
use Rattle.session_book.specs.Books.{Kept, tunnel_at, call_at}
use Rattle.end_names.specs.Names.{address_of}
use Rattle.end_model.specs.declared.event.Event.TheVariants.{Datagram}
use Rattle.end_model.specs.declared.out.Out.TheVariants.{Up}
use Rattle.end_model.specs.declared.tunnel.Call.{Call}
use Rattle.end_model.specs.Tunnels.{Tunnel}
use Rattle.end_model.specs.End.{End, Stepped, step}
use Rattle.world_model.specs.declared.packet.Packet.{Packet}
use Rattle.world_model.specs.World.{World, Node, Lined, line}
use Rattle.world_model.specs.Run.{run}
use Rattle.step_laws.specs.Gone.{gone_in}
use Rattle.step_laws.specs.Letters.{Among}
use Rattle.step_laws.specs.Looks.{LooksAreTrue}
use Rattle.step_laws.specs.Steps.{AreKept}
use Rattle.stranger_laws.specs.Lines.{Brings}

-- a tunnel of an end is the same in a later one, with its calls, its letters, its recovery and its mark; and the place of each of its calls
-- is the same, and so what the data plane sees of it
pub record IsSame (e : End) (i : ℕ) (t : Tunnel) (x : End) : Type 0 where
  pub tunnel : at x.tunnels i ≡ Some t
  pub places : (q : ℕ) (c : Call) → at t.calls q ≡ Some c → at x.calls q ≡ at e.calls q

-- what a step on a datagram of a peer leaves of a tunnel to another one
pub record LeavesAlone (e : End) (i : ℕ) (t : Tunnel) (s : Stepped) : Type 0 where
  pub same : IsSame e i t s.end
  -- none of its calls is told as gone, and no frame is handed up in one
  pub live : (q : ℕ) (c : Call) → at t.calls q ≡ Some c → Among q (gone_in s.outputs) → ⊥
  pub silent : (q : ℕ) (c : Call) → at t.calls q ≡ Some c → (side : Side) (frame : List ℕ) → Among (Up q side frame) s.outputs → ⊥

-- each step of an end whose tunnels are kept, and whose looks are true
abbrev pub DatagramsLeaveOthersAlone : Type 0
DatagramsLeaveOthersAlone =
    (e : End) → AreKept e → LooksAreTrue e → (moment : ℕ) (block : List ℕ) (peer : ℕ) (bytes : List ℕ)
    → (i : ℕ) (t : Tunnel) → at e.tunnels i ≡ Some t → (t.control.peer ≡ peer → ⊥)
    → LeavesAlone e i t (step e moment block (Datagram peer bytes))

-- ---- any number of datagrams

-- a datagram that comes of a peer, with the moment and the random bytes of its step
pub record Arrival : Type 0 where
  pub moment : ℕ
  pub block : List ℕ
  pub peer : ℕ
  pub bytes : List ℕ

-- the end behind the steps on all of them, in order
unfoldable pub after_all : End → List Arrival → End
after_all e [] = e
after_all e (d ∷ ds) = after_all (step e d.moment d.block (Datagram d.peer d.bytes)).end ds

-- it comes from another than this peer
abbrev pub IsOfAnother : ℕ → Arrival → Type 0
IsOfAnother peer d = peer ≡ d.peer → ⊥

-- whatever comes of others, in any number, a tunnel is as it was
abbrev pub TunnelsOutlastStrangers : Type 0
TunnelsOutlastStrangers =
    (e : End) → AreKept e → LooksAreTrue e → (i : ℕ) (t : Tunnel) → at e.tunnels i ≡ Some t
    → (ds : List Arrival) → AllByRecursion (IsOfAnother t.control.peer) ds → IsSame e i t (after_all e ds)

-- ---- lines

-- a book has of such a tunnel, and of its calls, what another one has: its record with its mark, or none
pub record IsSameInBook (i : ℕ) (t : Tunnel) (before after : Kept) : Type 0 where
  pub tunnel : tunnel_at after i ≡ tunnel_at before i
  pub calls : (q : ℕ) (c : Call) → at t.calls q ≡ Some c → call_at after q ≡ call_at before q

-- a node keeps such a tunnel, in its end and in its checkpoint
pub record KeepsTunnel (old : Node) (i : ℕ) (t : Tunnel) (new : Node) : Type 0 where
  pub end : IsSame old.end i t new.end
  pub book : IsSameInBook i t old.checkpoint.book new.checkpoint.book

-- what a line leaves that brings a node a packet from a peer
pub record LeavesOthersAlone (w : World) (n peer : ℕ) (x : Lined) : Type 0 where
  -- the node keeps each of its tunnels to another peer
  pub tunnels : (old new : Node) → at w.nodes n ≡ Some old → at x.world.nodes n ≡ Some new
      → (i : ℕ) (t : Tunnel) → at old.end.tunnels i ≡ Some t → (t.control.peer ≡ peer → ⊥) → KeepsTunnel old i t new
  -- and every other node has the end and the checkpoint that it had
  pub nodes : (m : ℕ) → (m ≡ n → ⊥) → (old new : Node) → at w.nodes m ≡ Some old → at x.world.nodes m ≡ Some new
      → (new.end ≡ old.end) × (new.checkpoint ≡ old.checkpoint)

-- after every list of lines of the grammar, whichever line brings a node a packet, where no stop cuts its step off
abbrev pub LinesLeaveOthersAlone : Type 0
LinesLeaveOthersAlone =
    (lines : List Line) → AreLines lines → (number : ℕ) (l : Line) (x : Lined) → line (run lines).world number l ≡ Ok x → x.cut ≡ false
    → (packet : Packet) (n : ℕ) → Brings (run lines).world l packet n → LeavesOthersAlone (run lines).world n (address_of packet.from) x
