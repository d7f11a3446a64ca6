-- What holds where a step begins.
use Rattle.std.proofs.Common.{List, ◌≡◌, ⊎_elim, ℕ, ◌+◌, ◌≤◌, Bool, true, false, cond, refl, sym, ◌∙◌, subst, Option, Some, None, Ok, arith}
use Rattle.std.proofs.lemmas.Bool.Decides.{nat_tests}
use Rattle.id_table.specs.Ids.{at}
use Rattle.l2tp_header.specs.declared.header.Header.{Header}
use Rattle.l2tp_header.specs.Reading.{header_of, body_of}
use Rattle.control_message.specs.declared.message.Message.{Message}
use Rattle.control_message.specs.declared.message.Message.TheVariants.{Sccrq, StopCcn}
use Rattle.control_message.specs.declared.message.Opening.{Opening}
use Rattle.end_model.specs.declared.out.Origin.{Origin}
use Rattle.end_model.specs.declared.out.Origin.TheVariants as origin
use Rattle.end_model.specs.declared.out.ControlOrigin.{ControlOrigin}
use Rattle.world_model.specs.declared.packet.Packet.{Packet}
use Rattle.world_model.specs.declared.refusal.Refusal.TheVariants.{HalfSpace}
use Rattle.end_model.specs.declared.tunnel.Control.{Control}
use Rattle.end_names.specs.Names.{address_of}
use Rattle.end_model.specs.declared.event.Addressee.TheVariants.{Opens, Stops}
use Rattle.end_model.specs.Reading.{at_zero}
use Rattle.end_model.specs.Secrets.{uncovered_datagram}
use Rattle.end_model.specs.Tunnels.{Tunnel}
use Rattle.end_model.specs.End.{End, reached_plain}
use Rattle.world_model.specs.World.{World, Node, standing_of, no_standing, counts_of, outlives, outlived, too_old, refused_by, sender_of}
use Rattle.step_laws.specs.Moves.{IsFor}
use Rattle.step_laws.specs.Opens.{opens_said, empty_opens_none}
use Rattle.frame_laws.specs.Codecs.{Codecs}
use Rattle.frame_laws.specs.Written.{IsWritten}
use Rattle.connection_laws.specs.Accounts.{Account}
use Rattle.connection_laws.specs.Facts.{Accounts, AccountOk, LiveOk, EndOk, IsCopy, IsRefusal, OriginOk, PacketOk, AreNear, IsPacket}
use Rattle.connection_laws.proofs.Later.{live_made}
use Rattle.connection_laws.proofs.Alike.{read_opens, read_stops}
use Rattle.connection_laws.proofs.Told.{copy_tells}
use Rattle.connection_laws.proofs.Stops.{stops_by, no_stop}
use Rattle.connection_laws.proofs.Refusals.{refusal_read}
use Rattle.connection_laws.proofs.Hearing.{IsLetterRead, IsNoneRead, copy_read}
use Rattle.connection_laws.proofs.Reached.{is_reached}

-- a live tunnel has an id
pub live_some : (accs : Accounts) (n i : ℕ) (a : Account) (t : Tunnel) → AccountOk accs n i a → LiveOk accs n i a t → i ≡ 0 → ⊥
live_some accs n i a t ok live z = let lt = ok.some (live_made accs n i a t live) in absurd (omega arith)

-- ---- numbers that haven't outlived half of them

pub record IsYoung (o : ControlOrigin) (c : Control) : Type 0 where
  pub taken : c.channel.inbox.taken ≤ o.ns + 32767
  pub acked : c.channel.window.acked ≤ o.nr + 32767

none_first : {X : Type 0} (b : Bool) (x : X) (o : Option X) → cond b (Some x) o ≡ None → (b ≡ false) × (o ≡ None)
none_first true x o h = absurd cc
none_first false x o h = (refl, h)

lives : (number count : ℕ) → outlives number count ≡ false → count ≤ number + 32767
lives number count h = grind (arith, nat_tests)

pub is_young : (w : World) (n epoch : ℕ) (o : ControlOrigin) (c : Control) → epoch ≡ 0 → standing_of w n c.local ≡ no_standing
    → too_old epoch o w n (Some c) ≡ None → IsYoung o c
unfolding too_old
is_young w n epoch o c first standing h =
    let young : outlived o (counts_of c) ≡ None = rw (first, standing) at h in
    let taken = c.channel.inbox.taken in
    let acked = c.channel.window.acked in
    let one = none_first (outlives o.ns taken) (HalfSpace o.ns taken) (cond (outlives o.nr acked) (Some (HalfSpace o.nr acked)) None) young in
    let two = none_first (outlives o.nr acked) (HalfSpace o.nr acked) None one.1 in
    record { taken = lives o.ns taken one.0; acked = lives o.nr acked two.0 }

-- ---- the numbers of a packet that isn't refused

written_opens : (m : Message) (x : Opening) → m ≡ Sccrq x → IsWritten m → x.tunnel ≡ 0 → ⊥
written_opens m x is w z = let k = subst IsWritten is w in let lt = k.0.tunnel_not_zero in absurd (omega arith)

module _ (codecs : Codecs) (accs : Accounts) (accounts : (m j : ℕ) → AccountOk accs m j (accs m j)) (n : ℕ) (e : End) (ok : EndOk accs n e) (w : World)
    (standings : (k i : ℕ) → standing_of w k i ≡ no_standing) (p : Packet) (first : p.epoch ≡ 0) (secret : Option (List ℕ)) where
  -- the packet as it is read
  abbrev bytes : List ℕ
  bytes = uncovered_datagram secret p.bytes

  -- an SCCRQ tells an id
  opens_some : (o : ControlOrigin) → IsCopy (accs p.from o.tunnel) p o → (h : Header) → header_of bytes ≡ Ok h
      → (r : ℕ) → at_zero (body_of bytes h) ≡ Opens r → r ≡ 0 → ⊥
  opens_some o c h read r opens z =
      let b = accs p.from o.tunnel in
      let ok_there = accounts p.from o.tunnel in
      ⊎_elim
      (λ (q : IsLetterRead b o h bytes).
      let asks = read_opens q.letter.message (body_of bytes h) q.reads r opens in
      written_opens q.letter.message asks.0 asks.1 q.spelled.written (sym asks.2 ∙ z))
      (λ (q : IsNoneRead o h bytes). empty_opens_none r (let s = opens in rw q.body at s))
      (copy_read codecs b p o secret h ok_there.remote ok_there.spelled c read).says

  -- so does a StopCCN that tells one
  stops_some : (o : ControlOrigin) → IsCopy (accs p.from o.tunnel) p o → (h : Header) → header_of bytes ≡ Ok h
      → (r : ℕ) → at_zero (body_of bytes h) ≡ Stops r → r ≡ 0 → ⊥
  stops_some o c h read r stops =
      let b = accs p.from o.tunnel in
      let ok_there = accounts p.from o.tunnel in
      ⊎_elim
      (λ (q : IsLetterRead b o h bytes). (read_stops q.letter.message (body_of bytes h) q.reads r stops).some)
      (λ (q : IsNoneRead o h bytes). absurd (no_stop codecs r (let s = stops in rw q.body at s)))
      (copy_read codecs b p o secret h ok_there.remote ok_there.spelled c read).says

  -- the tunnel that a copy is for is the one that it reaches
  pub copy_reaches : (o : ControlOrigin) → IsCopy (accs p.from o.tunnel) p o → (i : ℕ) (t : Tunnel) (h : Header) → at e.tunnels i ≡ Some t
      → t.control.peer ≡ address_of p.from → header_of bytes ≡ Ok h → IsFor h (body_of bytes h) t.control → reached_plain e (address_of p.from) bytes ≡ Some t.control
  copy_reaches o c i t h there peer read is =
      let tells = copy_tells codecs accs p.from o.tunnel (accs p.from o.tunnel) p o (accounts p.from o.tunnel) c secret h read in
      subst (λ q. reached_plain e q bytes ≡ Some t.control) peer
      (is_reached accs n e ok i t there (live_some accs n i (accs n i) t (accounts n i) (ok.live i t there)) bytes h read tells.control
      (opens_some o c h read) (stops_some o c h read) is)

  -- so is the one that a StopCCN of no tunnel is for
  refusal_reaches : (o : ControlOrigin) → IsRefusal accs p o → (i : ℕ) (t : Tunnel) (h : Header) → at e.tunnels i ≡ Some t
      → t.control.peer ≡ address_of p.from → header_of bytes ≡ Ok h → IsFor h (body_of bytes h) t.control → reached_plain e (address_of p.from) bytes ≡ Some t.control
  refusal_reaches o r i t h there peer read is =
      let k = refusal_read codecs accs accounts p o r secret h read in
      subst (λ q. reached_plain e q bytes ≡ Some t.control) peer
      (is_reached accs n e ok i t there (live_some accs n i (accs n i) t (accounts n i) (ok.live i t there)) bytes h read k.control
      (λ q opens z. (let asks = (opens_said (body_of bytes h) (StopCcn 0 k.result k.error) q opens k.said).1 in let no : ⊥ = cc in no))
      (λ q stops. (stops_by (body_of bytes h) (StopCcn 0 k.result k.error) q k.said stops).some) is)

  near_of : (o : ControlOrigin)
      → ((i : ℕ) (t : Tunnel) (h : Header) → at e.tunnels i ≡ Some t → t.control.peer ≡ address_of p.from → header_of bytes ≡ Ok h
      → IsFor h (body_of bytes h) t.control → reached_plain e (address_of p.from) bytes ≡ Some t.control)
      → too_old p.epoch o w p.to (reached_plain e (address_of p.from) bytes) ≡ None → AreNear accs n e p bytes (origin.Control o)
  near_of o reaches young i t h there peer read is =
      let y = is_young w p.to p.epoch o t.control first (standings p.to t.control.local) (rw (reaches i t h there peer read is) at young) in
      let taken = (ok.live i t there).taken in
      let le = y.taken in
      record { taken = omega arith; acked = y.acked }

  near_all : (q : Origin) → OriginOk accs p q
      → ((o : ControlOrigin) → q ≡ origin.Control o → too_old p.epoch o w p.to (reached_plain e (address_of p.from) bytes) ≡ None)
      → AreNear accs n e p bytes q
  near_all (origin.Control o) c young =
      ⊎_elim
      (λ (k : IsCopy (accs p.from o.tunnel) p o). near_of o (copy_reaches o k) (young o refl))
      (λ (k : IsRefusal accs p o). near_of o (refusal_reaches o k) (young o refl))
      c
  near_all (origin.Data session) c young = tt
  near_all (origin.Recovery tunnel number empty) c young = tt

-- a packet that isn't refused, as its node reads it
module _ (codecs : Codecs) (accs : Accounts) (accounts : (m j : ℕ) → AccountOk accs m j (accs m j)) (n : ℕ) (node : Node) (ok : EndOk accs n node.end)
    (w : World) (standings : (k i : ℕ) → standing_of w k i ≡ no_standing) (p : Packet) where
  abbrev own : Option (List ℕ)
  own = node.end.config.secret

  not_too_old : (q : Origin) → refused_by w p node q ≡ None → (o : ControlOrigin) → q ≡ origin.Control o
      → too_old p.epoch o w p.to (reached_plain node.end (address_of p.from) (uncovered_datagram own p.bytes)) ≡ None
  unfolding refused_by
  not_too_old (origin.Control c) young o is =
      let same : c ≡ o = cc in
      subst (λ (y : ControlOrigin). too_old p.epoch y w p.to (reached_plain node.end (address_of p.from) (uncovered_datagram own p.bytes)) ≡ None)
      same young
  not_too_old (origin.Data session) young o is = absurd cc
  not_too_old (origin.Recovery tunnel number empty) young o is = absurd cc

  pub is_packet : PacketOk accs p → p.to ≡ n → refused_by w p node p.origin ≡ None
      → IsPacket accs n node.end (sender_of p.from p.origin) (address_of p.from) (uncovered_datagram own p.bytes)
  is_packet sent to young = record {
    packet = p;
    ok = sent;
    to = to;
    peer_is = refl;
    secret = own;
    bytes_are = refl;
    sender_is = refl;
    near = near_all codecs accs accounts n node.end ok w standings p sent.epoch own p.origin sent.sent (not_too_old p.origin young);
  }
