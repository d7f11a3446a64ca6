-- One tunnel of an end is put, and what is known of it goes on: what is to hold of it then, so that all goes on to hold.
use Rattle.std.proofs.Common.{◌≡◌, ◌⊎◌, ℕ, ◌<◌, ◌≤◌, true, List, ◌++◌, Option, Some, Ok}
use Rattle.id_table.specs.Ids.{at, put}
use Rattle.l2tp_header.specs.declared.header.Header.{Header}
use Rattle.l2tp_header.specs.Reading.{header_of, body_of}
use Rattle.end_model.specs.declared.event.Event.{Event}
use Rattle.end_model.specs.declared.event.Event.TheVariants.{Datagram, Ring, Frame, Admitted, Payload, Lower, Lcp, Hang, OpenTunnel, DropCall, CloseTunnel, Tick}
use Rattle.end_model.specs.declared.out.Origin.{Origin}
use Rattle.end_model.specs.declared.out.Origin.TheVariants as origin
use Rattle.world_model.specs.declared.packet.Packet.{Packet}
use Rattle.end_names.specs.Names.{address_of}
use Rattle.end_model.specs.Tunnels.{Tunnel}
use Rattle.end_model.specs.End.{End}
use Rattle.world_model.specs.World.{Sender}
use Rattle.step_laws.specs.Letters.{Letter}
use Rattle.step_laws.specs.Moves.{IsFor}
use Rattle.connection_laws.specs.Accounts.{Unmade, Acceptor, Taken, Account}
use Rattle.connection_laws.specs.Facts.{Accounts, IsMade, IsOpen, AreJoined, partner_in, AccountOk, LiveOk, IsNear, Comes, Within}

-- what is known of a tunnel stays: more was given to it and taken by it, and it may have been made, or have learned an id, which only
-- an open one does, or have been closed, or its SCCRQ may have been declined
pub record Extends (a b : Account) : Type 0 where
  pub part : (a.part ≡ Unmade) ⊎ (b.part ≡ a.part)
  pub peer : IsMade a → b.peer ≡ a.peer
  pub remote : (IsOpen a × (a.remote ≡ 0)) ⊎ (b.remote ≡ a.remote)
  pub closed : IsOpen a ⊎ (b.closed ≡ a.closed)
  pub given : (more : List Letter) × (b.given ≡ a.given ++ more)
  pub taken : (more : List Taken) × (b.taken ≡ a.taken ++ more)
  pub declined : a.declined ≡ true → b.declined ≡ true

-- the accounts of all tunnels but one stay as they are
pub record IsOnly (accs ms : Accounts) (n i : ℕ) : Type 0 where
  pub here : Extends (accs n i) (ms n i)
  pub others : (m j : ℕ) → ((m ≡ n) × (j ≡ i) → ⊥) → ms m j ≡ accs m j

-- an opener that has learned this tunnel is still joined with it
abbrev pub StaysJoined : Accounts → ℕ → ℕ → Type 0
StaysJoined ms n i =
    (ms n i).part ≡ Acceptor → (partner_in ms (ms n i)).remote ≡ i → AreJoined (partner_in ms (ms n i)) (ms n i)

-- the numbers of the packet that comes are near those of the tunnel, if the packet is for it
abbrev pub NearAt : Accounts → ℕ → ℕ → Tunnel → Packet → List ℕ → Origin → Type 0
NearAt ms n i t p bytes (origin.Control o) =
    (h : Header) → t.control.peer ≡ address_of p.from → header_of bytes ≡ Ok h → IsFor h (body_of bytes h) t.control → IsNear (ms n i) t o
NearAt ms n i t p bytes (origin.Data session) = Unit {0}
NearAt ms n i t p bytes (origin.Recovery tunnel number empty) = Unit {0}

abbrev pub ComesNear : (accs : Accounts) (n : ℕ) (e : End) (sender : Option Sender) (ev : Event) → Comes accs n e sender ev
    → Accounts → ℕ → Tunnel → Type 0
ComesNear accs n e sender (Datagram peer bytes) c ms i t = NearAt ms n i t c.packet bytes c.packet.origin
ComesNear accs n e sender (Ring port) c ms i t = Unit {0}
ComesNear accs n e sender (Frame bytes) c ms i t = Unit {0}
ComesNear accs n e sender (Admitted mac) c ms i t = Unit {0}
ComesNear accs n e sender (Payload s frame) c ms i t = Unit {0}
ComesNear accs n e sender (Lower s frame) c ms i t = Unit {0}
ComesNear accs n e sender (Lcp s packet) c ms i t = Unit {0}
ComesNear accs n e sender (Hang s) c ms i t = Unit {0}
ComesNear accs n e sender OpenTunnel c ms i t = Unit {0}
ComesNear accs n e sender (DropCall s) c ms i t = Unit {0}
ComesNear accs n e sender (CloseTunnel k) c ms i t = Unit {0}
ComesNear accs n e sender Tick c ms i t = Unit {0}

-- what changes in an end where one tunnel is put
pub record EndPut (e x : End) (i : ℕ) (t : Tunnel) : Type 0 where
  pub role : x.role ≡ e.role
  pub config : x.config ≡ e.config
  pub tunnels : x.tunnels ≡ put e.tunnels i t
  pub next : e.tunnel_ids.next ≤ x.tunnel_ids.next
  pub last : x.tunnel_ids.last ≡ e.tunnel_ids.last
  pub sessions : e.session_ids.next ≤ x.session_ids.next
  pub last_session : x.session_ids.last ≡ e.session_ids.last

pub record IsPut (accs ms : Accounts) (n : ℕ) (e x : End) (sender : Option Sender) (ev : Event) (i : ℕ) (t : Tunnel) : Type 0 where
  pub within : Within accs n e sender ev
  pub only : IsOnly accs ms n i
  pub end : EndPut e x i t
  pub drawn : i < x.tunnel_ids.next
  pub account : AccountOk ms n i (ms n i)
  pub live : LiveOk ms n i (ms n i) t
  pub joined : StaysJoined ms n i
  pub apart : (j : ℕ) (u : Tunnel) → at e.tunnels j ≡ Some u → t.control.peer ≡ u.control.peer → t.control.remote ≡ u.control.remote
      → (t.control.remote ≡ 0 → ⊥) → j ≡ i
  pub near : ComesNear accs n e sender ev within.comes ms i t

-- then all holds of the end that is left
abbrev pub PutsKeep : Type 0
PutsKeep = (accs ms : Accounts) (n : ℕ) (e x : End) (sender : Option Sender) (ev : Event) (i : ℕ) (t : Tunnel)
    → IsPut accs ms n e x sender ev i t → Within ms n x sender ev
