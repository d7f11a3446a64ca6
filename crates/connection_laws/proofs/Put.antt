-- One tunnel of an end is put, and all goes on to hold.
use Rattle.std.proofs.Common.{◌≡◌, ◌⊎◌, inl, inr, ⊎_elim, ℕ, ◌<◌, List, sym, ◌∙◌, subst, Option, Some, arith}
use Rattle.id_table.specs.Ids.{at}
use Rattle.id_table.specs.Order.{ascends-put, found_put, same_or_not}
use Rattle.end_model.specs.declared.event.Event.{Event}
use Rattle.end_model.specs.declared.event.Event.TheVariants.{Datagram, Ring, Frame, Admitted, Payload, Lower, Lcp, Hang, OpenTunnel, DropCall, CloseTunnel, Tick}
use Rattle.end_model.specs.declared.out.Origin.{Origin}
use Rattle.end_model.specs.declared.out.Origin.TheVariants as origin
use Rattle.world_model.specs.declared.packet.Packet.{Packet}
use Rattle.end_model.specs.Tunnels.{Tunnel}
use Rattle.end_model.specs.End.{End}
use Rattle.world_model.specs.World.{Sender}
use Rattle.connection_laws.specs.Facts.{Accounts, IsMade, AccountOk, LiveOk, EndOk, AreNear, Comes}
use Rattle.connection_laws.proofs.Puts.{NearAt, ComesNear, IsPut, PutsKeep}
use Rattle.connection_laws.proofs.Later.{AllExtend, all_extend, here_or_not, account_later, live_made, live_later, packet_later}

module _ (accs ms : Accounts) (n : ℕ) (e x : End) (sender : Option Sender) (ev : Event) (i : ℕ) (t : Tunnel) (h : IsPut accs ms n e x sender ev i t) where
  grown : AllExtend accs ms
  grown = all_extend accs ms n i h.only

  -- the account of another tunnel of the node is as it was
  as_before : (j : ℕ) → (j ≡ i → ⊥) → ms n j ≡ accs n j
  as_before j other = h.only.others n j (λ both. other both.1)

  accounts : (m j : ℕ) → AccountOk ms m j (ms m j)
  accounts m j =
      ⊎_elim
      (λ (p : (m ≡ n) × (j ≡ i)). rw (p.0, p.1) h.account)
      (λ other.
      let same = h.only.others m j other in
      rw same (account_later accs ms n i h.only h.joined m j same (h.within.accounts m j)))
      (here_or_not m n j i)

  found : (j : ℕ) (u : Tunnel) → at x.tunnels j ≡ Some u → ((j ≡ i) × (t ≡ u)) ⊎ ((j ≡ i → ⊥) × (at e.tunnels j ≡ Some u))
  found j u f = found_put e.tunnels i t j u (subst (λ ts. at ts j ≡ Some u) h.end.tunnels f)

  drawn : (j : ℕ) → IsMade (ms n j) → j < x.tunnel_ids.next
  drawn j made =
      ⊎_elim
      (λ (p : j ≡ i). rw p h.drawn)
      (λ other.
      let lt = h.within.end.drawn j (subst IsMade (as_before j other) made) in
      let le = h.end.next in
      omega arith)
      (same_or_not j i)

  live : (j : ℕ) (u : Tunnel) → at x.tunnels j ≡ Some u → LiveOk ms n j (ms n j) u
  live j u f =
      ⊎_elim
      (λ (p : (j ≡ i) × (t ≡ u)). rw (p.0, ← p.1) h.live)
      (λ p.
      let before = h.within.end.live j u p.1 in
      let some = (h.within.accounts n j).some (live_made accs n j (accs n j) u before) in
      rw (as_before j p.0) (live_later accs ms grown n j some (accs n j) u before))
      (found j u f)

  -- no other tunnel has this one's partner
  abbrev IsAlone : Tunnel → Type 0
  IsAlone u = (k : ℕ) (v : Tunnel) → at e.tunnels k ≡ Some v → u.control.peer ≡ v.control.peer → u.control.remote ≡ v.control.remote
      → (u.control.remote ≡ 0 → ⊥) → k ≡ i

  alone : (u : Tunnel) → t ≡ u → IsAlone u
  alone u same = subst IsAlone same h.apart

  apart : (j k : ℕ) (u v : Tunnel) → at x.tunnels j ≡ Some u → at x.tunnels k ≡ Some v → u.control.peer ≡ v.control.peer
      → u.control.remote ≡ v.control.remote → (u.control.remote ≡ 0 → ⊥) → j ≡ k
  apart j k u v f g peer remote some = by (found j u f) (found k v g)
    where
      by : ((j ≡ i) × (t ≡ u)) ⊎ ((j ≡ i → ⊥) × (at e.tunnels j ≡ Some u)) → ((k ≡ i) × (t ≡ v)) ⊎ ((k ≡ i → ⊥) × (at e.tunnels k ≡ Some v))
          → j ≡ k
      by (inl p) (inl q) = p.0 ∙ sym q.0
      by (inl p) (inr q) = p.0 ∙ sym (alone u p.1 k v q.1 peer remote some)
      by (inr p) (inl q) = alone v q.1 j u p.1 (sym peer) (sym remote) (λ none. some (remote ∙ none)) ∙ sym q.0
      by (inr p) (inr q) = h.within.end.apart j k u v p.1 q.1 peer remote some

  end : EndOk ms n x
  end = record {
    node = h.within.end.node;
    number = rw h.end.config h.within.end.number;
    lns = rw (h.end.role, h.end.config) h.within.end.lns;
    first = (let some = h.within.end.first in let le = h.end.next in omega arith);
    last = rw h.end.last h.within.end.last;
    first_session = (let some = h.within.end.first_session in let le = h.end.sessions in omega arith);
    last_session = rw h.end.last_session h.within.end.last_session;
    order = rw h.end.tunnels (ascends-put i t e.tunnels h.within.end.order);
    drawn = drawn;
    live = live;
    apart = apart;
  }

  -- what the packet tells is near each tunnel still
  near : (p : Packet) (bytes : List ℕ) (o : Origin) → AreNear accs n e p bytes o → NearAt ms n i t p bytes o → AreNear ms n x p bytes o
  near p bytes (origin.Control o) before here = λ j u b f.
      ⊎_elim
      (λ (q : (j ≡ i) × (t ≡ u)). rw (q.0, ← q.1) (here b))
      (λ q. rw (as_before j q.0) (before j u b q.1))
      (found j u f)
  near p bytes (origin.Data session) before here = tt
  near p bytes (origin.Recovery tunnel number empty) before here = tt

  comes : (v : Event) (c : Comes accs n e sender v) → ComesNear accs n e sender v c ms i t → Comes ms n x sender v
  comes (Datagram peer bytes) c here = record {
    packet = c.packet;
    ok = packet_later accs ms grown c.packet c.ok;
    to = c.to;
    peer_is = c.peer_is;
    secret = c.secret;
    bytes_are = c.bytes_are;
    sender_is = c.sender_is;
    near = near c.packet bytes c.packet.origin c.near here;
  }
  comes (Ring port) c here = tt
  comes (Frame bytes) c here = tt
  comes (Admitted mac) c here = tt
  comes (Payload s frame) c here = tt
  comes (Lower s frame) c here = tt
  comes (Lcp s packet) c here = tt
  comes (Hang s) c here = tt
  comes OpenTunnel c here = tt
  comes (DropCall s) c here = tt
  comes (CloseTunnel k) c here = tt
  comes Tick c here = tt

pub puts_keep : PutsKeep
puts_keep accs ms n e x sender ev i t h = record {
  accounts = accounts accs ms n e x sender ev i t h;
  end = end accs ms n e x sender ev i t h;
  comes = comes accs ms n e x sender ev i t h ev h.within.comes h.near;
}
