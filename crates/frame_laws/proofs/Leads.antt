-- What a move leaves of a node and of the world: births and roles stay, and one tunnel of the end is put.
use Rattle.std.proofs.Common.{◌≡◌, ⊎_elim, ℕ, ◌+◌, ◌-◌, ◌^◌, ◌<◌, ◌≤◌, Bool, true, List, sym, ap, ◌∙◌, subst, Some, Ok, arith}
use Rattle.id_table.specs.Ids.{at, put}
use Rattle.id_table.specs.Order.{ascends-put, found_put}
use Rattle.l2tp_header.specs.declared.header.Header.{Header}
use Rattle.l2tp_header.specs.Reading.{header_of, body_of}
use Rattle.control_message.specs.Pairs as codec
use Rattle.control_message.specs.declared.message.Message.{Message}
use Rattle.control_message.specs.declared.message.Message.TheVariants.{Sccrq, Fsq}
use Rattle.end_model.specs.declared.event.Event.{Event}
use Rattle.end_model.specs.declared.event.Event.TheVariants.{Datagram, Ring, Frame, Admitted, Payload, Lower, Lcp, Hang, OpenTunnel, DropCall, CloseTunnel, Tick}
use Rattle.end_model.specs.declared.tunnel.Call.{Call}
use Rattle.end_names.specs.declared.role.Role.{Role}
use Rattle.end_names.specs.Names.{address_of, node_of}
use Rattle.end_model.specs.Reading.{message_in, CallFault, call_fault_in, TunnelFault, tunnel_fault_in}
use Rattle.end_model.specs.Tunnels.{Tunnel}
use Rattle.end_model.specs.End.{End}
use Rattle.world_model.specs.World.{World, Node}
use Rattle.step_laws.specs.Moves.{Came, CameIn, Hears}
use Rattle.frame_laws.specs.Unrecovered.{AsksForNone}
use Rattle.frame_laws.specs.Written.{IsWritten}
use Rattle.frame_laws.proofs.Facts.{Nodes, Born, Plays, Grows, NamesItsCall, names_later, CallOk, CallsOk, TunnelOk, tunnel_later, EndOk}
use Rattle.frame_laws.proofs.Births.{Counted}
use Rattle.frame_laws.proofs.Alike.{AreLike}

-- ---- what is heard

-- a node's address is its own
pub node_again : (from : ℕ) → from < 256 → node_of (address_of from) ≡ from
unfolding node_of address_of
node_again from lt = omega arith

-- what reading a packet gives, where its sender is at an address
pub record HeardFrom (calm : Bool) (ns : Nodes) (n peer : ℕ) (bytes : List ℕ) : Type 0 where
  pub from : ℕ
  pub number : from < 256
  pub address : peer ≡ address_of from
  pub letters : (h : Header) → header_of bytes ≡ Ok h → h.control ≡ true → (m : Message) → message_in (body_of bytes h) ≡ Ok m
      → codec.IsWritten m × NamesItsCall ns from n h.session m
  pub plainly : calm ≡ true → (h : Header) → header_of bytes ≡ Ok h → h.control ≡ true → (m : Message)
      → message_in (body_of bytes h) ≡ Ok m → IsWritten m
  pub faulty : (h : Header) → header_of bytes ≡ Ok h → h.control ≡ true → (f : CallFault) → call_fault_in (body_of bytes h) ≡ Some f
      → (own : ℕ) × (f.session ≡ Some own) × (own < 65536)
  pub told : (h : Header) → header_of bytes ≡ Ok h → h.control ≡ true → (g : TunnelFault) → tunnel_fault_in (body_of bytes h) ≡ Some g
      → g.remote < 65536

abbrev pub Heard : Bool → Nodes → ℕ → Event → Type 0
Heard calm ns n (Datagram peer bytes) = HeardFrom calm ns n peer bytes
Heard calm ns n (Ring port) = Unit {0}
Heard calm ns n (Frame bytes) = Unit {0}
Heard calm ns n (Admitted mac) = Unit {0}
Heard calm ns n (Payload s frame) = Unit {0}
Heard calm ns n (Lower s frame) = Unit {0}
Heard calm ns n (Lcp s packet) = Unit {0}
Heard calm ns n (Hang s) = Unit {0}
Heard calm ns n OpenTunnel = Unit {0}
Heard calm ns n (DropCall s) = Unit {0}
Heard calm ns n (CloseTunnel i) = Unit {0}
Heard calm ns n Tick = Unit {0}

pub heard_later : (calm : Bool) (ns ms : Nodes) → Grows ns ms → (n : ℕ) (ev : Event) → Heard calm ns n ev → Heard calm ms n ev
heard_later calm ns ms g n (Datagram peer bytes) h = record {
  from = h.from;
  number = h.number;
  address = h.address;
  letters = λ x e c m r. let l = h.letters x e c m r in (l.0, names_later ns ms g h.from n x.session m l.1);
  plainly = h.plainly;
  faulty = h.faulty;
  told = h.told;
}
heard_later calm ns ms g n (Ring port) h = tt
heard_later calm ns ms g n (Frame bytes) h = tt
heard_later calm ns ms g n (Admitted mac) h = tt
heard_later calm ns ms g n (Payload s frame) h = tt
heard_later calm ns ms g n (Lower s frame) h = tt
heard_later calm ns ms g n (Lcp s packet) h = tt
heard_later calm ns ms g n (Hang s) h = tt
heard_later calm ns ms g n OpenTunnel h = tt
heard_later calm ns ms g n (DropCall s) h = tt
heard_later calm ns ms g n (CloseTunnel i) h = tt
heard_later calm ns ms g n Tick h = tt

pub heard_letter : (calm : Bool) (ns : Nodes) (n : ℕ) (ev : Event) → Heard calm ns n ev → (peer session : ℕ) (m : Message)
    → Hears ev peer session m
    → codec.IsWritten m × NamesItsCall ns (node_of peer) n session m
heard_letter calm ns n ev heard peer session m h =
    let k : HeardFrom calm ns n h.letter.peer h.came.bytes = subst (Heard calm ns n) h.came.is heard in
    let l = k.letters h.letter.header h.came.read h.came.control m (ap message_in (sym h.came.body_is) ∙ h.says.said) in
    let from : node_of peer ≡ k.from = ap node_of (sym h.peer_is ∙ k.address) ∙ node_again k.from k.number in
    (l.0, rw (from, ← h.says.session_is) l.1)

-- where nothing is recovered, what is heard asks for no recovery, and is no query of sessions
module _ (calm : Bool) (ns : Nodes) (n : ℕ) (ev : Event) (heard : Heard calm ns n ev) (still : calm ≡ true) where
  heard_plainly : (k : Came) → CameIn ev k → (m : Message) → message_in k.body ≡ Ok m → IsWritten m
  heard_plainly k came m said =
      let h : HeardFrom calm ns n k.peer came.bytes = subst (Heard calm ns n) came.is heard in
      h.plainly still k.header came.read came.control m (ap message_in (sym came.body_is) ∙ said)

  pub heard_asks : AsksForNone ev
  heard_asks = (
    (λ k came o said. (heard_plainly k came (Sccrq o) said).0.recovery),
    (λ k came pairs said. heard_plainly k came (Fsq pairs) said),
  )

-- the session that a faulty message tells has 16 bits
pub heard_faulty : (calm : Bool) (ns : Nodes) (n : ℕ) (ev : Event) → Heard calm ns n ev → (peer : ℕ) (bytes : List ℕ) (h : Header)
    → ev ≡ Datagram peer bytes
    → header_of bytes ≡ Ok h → h.control ≡ true → (f : CallFault) → call_fault_in (body_of bytes h) ≡ Some f
    → (own : ℕ) × (f.session ≡ Some own) × (own < 65536)
heard_faulty calm ns n ev heard peer bytes h is read control f fault =
    let k : HeardFrom calm ns n peer bytes = subst (Heard calm ns n) is heard in k.faulty h read control f fault

-- a fault tells no id of more than 16 bits
pub heard_told : (calm : Bool) (ns : Nodes) (n : ℕ) (ev : Event) → Heard calm ns n ev → (peer : ℕ) (bytes : List ℕ) (h : Header)
    → ev ≡ Datagram peer bytes
    → header_of bytes ≡ Ok h → h.control ≡ true → (g : TunnelFault) → tunnel_fault_in (body_of bytes h) ≡ Some g → g.remote < 65536
heard_told calm ns n ev heard peer bytes h is read control g fault =
    let k : HeardFrom calm ns n peer bytes = subst (Heard calm ns n) is heard in k.told h read control g fault

-- ---- an end along the moves of a step

-- the step leads to a node z; so far it led to an end x, and to a world
pub record At (calm : Bool) (n : ℕ) (z : Node) (v : World) (x : End) : Type 0 where
  pub node : Node
  pub is : at v.nodes n ≡ Some node
  pub end_is : node.end ≡ z.end
  pub checkpoint_is : node.checkpoint ≡ z.checkpoint
  pub role : z.end.role ≡ x.role
  pub end : EndOk calm v.nodes n x
  pub births : (s b : ℕ) → at node.births s ≡ Some b → (s < x.session_ids.next) × (0 < b)

-- the count of births has room for all session ids that the end may still draw
abbrev pub HasRoom : World → End → Type 0
HasRoom v x = v.born + 65536 < 2 ^ 64 - 1 + x.session_ids.next

pub record Leads (n : ℕ) (v w : World) (x y : End) : Type 0 where
  pub grows : Grows v.nodes w.nodes
  -- of the other nodes no more changes than what the world keeps of their tunnels
  pub others : (m : ℕ) → (m ≡ n → ⊥) → AreLike (at v.nodes m) (at w.nodes m)
  -- each birth was there before, but for those of sessions that were drawn, and each role
  pub olds : (m s b : ℕ) → Born w.nodes m s b → (m ≡ n → s < x.session_ids.next) → Born v.nodes m s b
  pub backs : (m : ℕ) (r : Role) → Plays w.nodes m r → Plays v.nodes m r
  pub packets : w.packets ≡ v.packets
  pub born : w.born + x.session_ids.next ≤ v.born + y.session_ids.next
  pub rises : x.session_ids.next ≤ y.session_ids.next
  pub climbs : x.tunnel_ids.next ≤ y.tunnel_ids.next
  pub counted : HasRoom v x → Counted v.nodes v.born → Counted w.nodes w.born

-- ---- a tunnel is put

pub record Sets (x y : End) (i : ℕ) (t : Tunnel) : Type 0 where
  pub role : y.role ≡ x.role
  pub config : y.config ≡ x.config
  pub tunnels : y.tunnels ≡ put x.tunnels i t
  pub next : x.tunnel_ids.next ≤ y.tunnel_ids.next
  pub last : y.tunnel_ids.last ≡ x.tunnel_ids.last
  pub most_tunnels : y.tunnel_ids.next ≤ 65536
  pub sessions : x.session_ids.next ≤ y.session_ids.next
  pub last_session : y.session_ids.last ≡ x.session_ids.last
  pub most : y.session_ids.next ≤ 65536
  pub draws : y.recovery_ids.last ≡ x.recovery_ids.last

pub calls_put : (ns : Nodes) (n : ℕ) (role : Role) (bound peer s : ℕ) (c : Call) (calls : List (ℕ × Call))
    → CallsOk ns n role bound peer calls
    → CallOk ns n role bound peer s c → CallsOk ns n role bound peer (put calls s c)
calls_put ns n role bound peer s c calls h ok q d f = ⊎_elim (λ (a : (q ≡ s) × (c ≡ d)). rw (a.0, ← a.1) ok) (λ a. h q d a.1)
    (found_put calls s c q d f)

pub end_put : (calm : Bool) (ns ms : Nodes) → Grows ns ms → (n : ℕ) (x y : End) (i : ℕ) (t : Tunnel) → EndOk calm ns n x → Sets x y i t
    → TunnelOk calm ms n y i t
    → EndOk calm ms n y
end_put calm ns ms g n x y i t h sets ok =
    record {
      number = rw sets.config h.number;
      first = (let f = h.first in let le = sets.next in omega arith);
      last = rw sets.last h.last;
      most_tunnels = sets.most_tunnels;
      first_session = (let f = h.first_session in let le = sets.sessions in omega arith);
      last_session = rw sets.last_session h.last_session;
      most = sets.most;
      last_draw = rw sets.draws h.last_draw;
      tunnels = λ j u f. ⊎_elim
          (λ (a : (j ≡ i) × (t ≡ u)). rw (a.0, ← a.1) ok)
          (λ a. tunnel_later calm ns ms g n x y j u sets.role sets.next sets.sessions (h.tunnels j u a.1))
          (found_put x.tunnels i t j u (rw (← sets.tunnels) f));
      order = rw sets.tunnels (ascends-put i t x.tunnels h.order);
    }
