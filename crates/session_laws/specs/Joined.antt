-- A world of nodes, and a world of the abstract machine in which their tunnels and calls have names.
use Rattle.std.specs.Prelude.{◌≡◌, ℕ, ◌<◌, ◌≤◌, List, map, true, false, Option, Some, None, option_map}
use Rattle.std.specs.List.{AllByRecursion}
use Rattle.id_table.specs.Ids.{at}
use Rattle.call_fsm.specs.declared.table.CallState.{CallState}
use Rattle.call_fsm.specs.declared.table.CallState.TheVariants.{Idle, WaitTunnel, WaitReply, WaitConnect, Established}
use Rattle.tunnel_fsm.specs.Rows.{state_number}
use Rattle.end_model.specs.declared.tunnel.Call.{Call}
use Rattle.end_names.specs.declared.role.Role.{Role}
use Rattle.end_names.specs.declared.role.Role.TheVariants.{Lac, Lns}
use Rattle.end_model.specs.declared.moves.Replied.{Replied}
use Rattle.end_model.specs.declared.moves.Move.TheVariants as move
use Rattle.end_names.specs.Names.{node_of}
use Rattle.end_model.specs.Tunnels.{Tunnel}
use Rattle.end_model.specs.End.{End}
use Rattle.world_model.specs.World.{World, Node, Deed, birth_of}
use Rattle.epoch_machine.specs.Worlds as machine
use Rattle.epoch_machine.specs.Worlds.{all_rules}
use Rattle.epoch_machine.specs.Moves.{Move, after}
use Rattle.epoch_machine.specs.Calls.{NoCall}
use Rattle.connection_laws.specs.Accounts.{Account, heeded}
use Rattle.connection_laws.specs.Facts.{Accounts, IsMade}
use Rattle.session_laws.specs.Roles.{FitEnds}
use Rattle.session_laws.specs.Names.{name, name_of, learned_name, letter_of, phase_in, state_of, is_made, is_opener}

-- the ends of nodes, by their numbers
abbrev pub Ends : Type 0
Ends = ℕ → Option End

abbrev pub tunnel_in : Option End → ℕ → Option Tunnel
tunnel_in None i = None
tunnel_in (Some e) i = at e.tunnels i

-- a tunnel that is or was, of a node, and the machine's
pub record TunnelJoined (w : machine.World) (n i : ℕ) (a : Account) (o : Option Tunnel) : Type 0 where
  pub drawn : w.tunnels.drawn (name n i) ≡ is_made a.part
  pub opener : w.tunnels.opener (name n i) ≡ is_opener a.part
  pub node : IsMade a → w.tunnels.node (name n i) ≡ n
  pub peer : IsMade a → w.tunnels.peer (name n i) ≡ a.peer
  pub learned : w.tunnels.learned (name n i) ≡ learned_name a
  pub phase : w.tunnels.phase (name n i) ≡ phase_in o
  pub entered : w.tunnels.entered (name n i) ≡ 0
  -- its letters have the places that their numbers are
  pub sent : w.channels.sent (name n i) 0 ≡ map (λ l. letter_of n a.peer l) a.given
  -- what it takes once it is closed isn't counted
  pub taken : w.channels.taken (name n i) 0 ≡ heeded a
  -- its SCCRQ was declined
  pub refused : w.channels.refused (name n i) ≡ a.declined
  -- it asks nothing of what both ends held before a recovery
  pub asks : (z : ℕ) → w.calls.asks (name n i) z ≡ false

-- a live call of a tunnel that goes to a peer, and the machine's
pub record CallJoined (w : machine.World) (n i peer s : ℕ) (c : Call) : Type 0 where
  pub some : 0 < s
  pub state : w.calls.state (name n s) ≡ state_of c.state
  pub tunnel : w.calls.tunnel (name n s) ≡ name n i
  pub remote : w.calls.remote (name n s) ≡ name_of peer c.remote

-- no tunnel of an end has a call of this session
abbrev pub HasNoCall : End → ℕ → Type 0
HasNoCall e s = (i : ℕ) (t : Tunnel) → at e.tunnels i ≡ Some t → at t.calls s ≡ None

-- a LAC's calls ask, and an LNS's reply
abbrev pub FitsRole : Role → CallState → Type 0
FitsRole r Idle = ⊥
FitsRole Lac WaitTunnel = Unit {0}
FitsRole Lac WaitReply = Unit {0}
FitsRole Lac WaitConnect = ⊥
FitsRole Lac Established = Unit {0}
FitsRole Lns WaitTunnel = ⊥
FitsRole Lns WaitReply = ⊥
FitsRole Lns WaitConnect = Unit {0}
FitsRole Lns Established = Unit {0}

-- the calls of a node's end
pub record CallsJoined (w : machine.World) (accs : Accounts) (n : ℕ) (e : End) : Type 0 where
  pub live : (i : ℕ) (t : Tunnel) → at e.tunnels i ≡ Some t → (s : ℕ) (c : Call) → at t.calls s ≡ Some c → CallJoined w n i (accs n i).peer s c
  pub drawn : (i : ℕ) (t : Tunnel) → at e.tunnels i ≡ Some t → (s : ℕ) (c : Call) → at t.calls s ≡ Some c → s < e.session_ids.next
  pub gone : (s : ℕ) → s < 65536 → HasNoCall e s → w.calls.state (name n s) ≡ NoCall
  pub undrawn : (s : ℕ) → e.session_ids.next ≤ s → s < 65536 → w.calls.drawn (name n s) ≡ false
  -- in a tunnel that is to open calls wait
  pub waiting : (i : ℕ) (t : Tunnel) → at e.tunnels i ≡ Some t → state_number t.control.state ≡ 1
      → (s : ℕ) (c : Call) → at t.calls s ≡ Some c → c.state ≡ WaitTunnel
  -- session ids have 16 bits, and tunnel ids
  pub most : e.session_ids.next ≤ 65536
  pub ids : (i : ℕ) (t : Tunnel) → at e.tunnels i ≡ Some t → i < 65536
  -- no call has session 0
  pub zero : w.calls.drawn (name n 0) ≡ false
  pub roles : (i : ℕ) (t : Tunnel) → at e.tunnels i ≡ Some t → (s : ℕ) (c : Call) → at t.calls s ≡ Some c → FitsRole e.role c.state

abbrev pub NodeJoined : machine.World → Accounts → ℕ → Option End → Type 0
NodeJoined w accs n None = (s : ℕ) → s < 65536 → (w.calls.state (name n s) ≡ NoCall) × (w.calls.drawn (name n s) ≡ false)
NodeJoined w accs n (Some e) = CallsJoined w accs n e

-- the machine's world is one of its runs, and all tunnels and calls of the ends are joined with it; each tunnel says what its end's
-- role allows
pub record AreJoined (accs : Accounts) (ends : Ends) (w : machine.World) : Type 0 where
  pub tunnels : (n i : ℕ) → n < 256 → i < 65536 → TunnelJoined w n i (accs n i) (tunnel_in (ends n) i)
  pub nodes : (n : ℕ) → n < 256 → NodeJoined w accs n (ends n)
  pub fit : FitEnds accs ends
  pub up : (n : ℕ) → w.tunnels.up n ≡ true
  pub moves : List Move
  pub run : w ≡ after all_rules moves

-- the ends of a world's nodes
abbrev pub ends_of : List (ℕ × Node) → Ends
ends_of nodes n = option_map (λ (node : Node). node.end) (at nodes n)

-- ---- births and mates

-- a call of a LAC's asks, and replies to none; one of an LNS's replies to the call of the other end whose name it knows
abbrev pub mate_of : Role → ℕ → ℕ
mate_of Lac known = 0
mate_of Lns known = known

-- the mate of a node's session, which the machine keeps when the call is gone, as it keeps the name that the call knew
abbrev pub MateJoined : machine.World → ℕ → ℕ → Option End → Type 0
MateJoined w n s None = (w.calls.mate (name n s) ≡ 0) × (w.calls.remote (name n s) ≡ 0)
MateJoined w n s (Some e) = w.calls.mate (name n s) ≡ mate_of e.role (w.calls.remote (name n s))

-- births and mates of all sessions, whether their calls live or not: of one that was never born the birth is 0 on both sides
pub record BirthsJoined (world : World) (ends : Ends) (w : machine.World) : Type 0 where
  pub count : w.calls.births ≡ world.born
  pub birth : (n s : ℕ) → n < 256 → s < 65536 → w.calls.birth (name n s) ≡ birth_of world n s
  pub mate : (n s : ℕ) → n < 256 → s < 65536 → MateJoined w n s (ends n)

-- a call that was made for a request has the call that the request names for its mate, whether it lives or not
pub record ReplyJoined (w : machine.World) (n : ℕ) (m : Replied) : Type 0 where
  pub session : m.session < 65536
  pub some : 0 < m.remote
  pub mate : w.calls.mate (name n m.session) ≡ name (node_of m.peer) m.remote

-- so has each one that was made by what a run did
abbrev pub RepliesJoined : machine.World → List Deed → Type 0
RepliesJoined w ds = AllByRecursion (λ (d : Deed). (m : Replied) → d.move ≡ move.Replied m → ReplyJoined w d.node m) ds

-- each live call has the mate that its end knows
abbrev pub MatesJoined : Accounts → Ends → machine.World → Type 0
MatesJoined accs ends w = (n : ℕ) → n < 256 → (e : End) → ends n ≡ Some e → (i : ℕ) (t : Tunnel) → at e.tunnels i ≡ Some t
    → (s : ℕ) (c : Call) → at t.calls s ≡ Some c → w.calls.mate (name n s) ≡ mate_of e.role (name_of (accs n i).peer c.remote)
