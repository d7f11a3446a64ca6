-- What comes where a step begins: a packet that isn't refused is near each tunnel that it is for.
use Rattle.std.proofs.Common.{List, ◌≡◌, ⊎_elim, ℕ, true, refl, sym, ap, ◌∙◌, subst, Option, Some, None, Ok, arith}
use Rattle.std.specs.Prelude.{slice_get}
use Rattle.id_table.specs.Ids.{at}
use Rattle.l2tp_header.specs.declared.header.Header.{Header}
use Rattle.l2tp_header.specs.Reading.{header_of, body_of}
use Rattle.control_message.specs.declared.message.Message.{Message}
use Rattle.control_message.specs.declared.message.Message.TheVariants.{Sccrq, StopCcn}
use Rattle.control_message.specs.declared.message.Opening.{Opening}
use Rattle.recv_window.specs.Window.{ClassIsTrue}
use Rattle.end_names.specs.Names.{address_of}
use Rattle.end_model.specs.declared.event.Event.{Event}
use Rattle.end_model.specs.declared.event.Event.TheVariants.{Datagram}
use Rattle.end_model.specs.declared.out.Origin.{Origin}
use Rattle.end_model.specs.declared.out.Origin.TheVariants as origin
use Rattle.end_model.specs.declared.out.ControlOrigin.{ControlOrigin}
use Rattle.end_model.specs.Reading.{at_zero}
use Rattle.end_model.specs.Secrets.{uncovered_datagram, uncovered_event}
use Rattle.end_model.specs.Tunnels.{Tunnel, mode_of, is_current}
use Rattle.end_model.specs.End.{End, reached_plain}
use Rattle.world_model.specs.declared.packet.Packet.{Packet}
use Rattle.world_model.specs.World.{World, Node, Sender, standing_of, epoch_of, too_old, refused_by, sender_of}
use Rattle.step_laws.specs.Arrivals.{IsFor}
use Rattle.step_laws.specs.Opens.{opens_said, empty_opens_none}
use Rattle.frame_laws.specs.Codecs.{Codecs}
use Rattle.frame_laws.specs.Written.{IsWritten}
use Rattle.connection_laws.proofs.Alike.{read_opens, read_stops}
use Rattle.connection_laws.proofs.Stops.{stops_by, no_stop}
use Rattle.channel_laws.specs.Recoveries.{WrittenIsRead, WrittenHasRoom}
use Rattle.channel_laws.proofs.Spelled.{IsPlainRead, IsQueryRead, query_for_none}
use Rattle.channel_laws.specs.Accounts.{History}
use Rattle.channel_laws.specs.Epochs.{EpochsKnown}
use Rattle.channel_laws.specs.Facts.{ChannelOk, LiveOk, EndOk, BookOk, NodeOk, IsCopy, IsRefusal, OriginOk, PacketOk, Holds}
use Rattle.channel_laws.specs.Heard.{IsDelivered}
use Rattle.channel_laws.specs.Lines.{IsNoDatagram, ComesIn, OfPacket, OfItself}
use Rattle.channel_laws.specs.Steps.{IsNear, AreNear, IsPacket, Comes}
use Rattle.channel_laws.proofs.Coming.{refused_fits}
use Rattle.channel_laws.proofs.Heard.{no_earlier, IsYoung, same_epoch, past_of, epoch, young}
use Rattle.channel_laws.proofs.Reaching.{is_reached}
use Rattle.channel_laws.proofs.Readings.{IsLetterRead, IsNoneRead, copy_read, stop_read}
use Rattle.channel_laws.proofs.Told.{all_at}

written_opens : (m : Message) (x : Opening) → m ≡ Sccrq x → IsWritten m → x.tunnel ≡ 0 → ⊥
written_opens m x is w z = let k = subst IsWritten is w in let lt = k.0.tunnel_not_zero in absurd (omega (arith, lt, z))

module _ (codecs : Codecs) (again : WrittenIsRead) (room : WrittenHasRoom) (classes : ClassIsTrue) (w : World) (h : History)
    (holds : Holds w h) (known : EpochsKnown w h) (n : ℕ) (node : Node) (node_is : at w.nodes n ≡ Some node)
    (p : Packet) (to : p.to ≡ n) (ok : PacketOk w h p) where
  abbrev e : End
  e = node.end

  -- the packet as it is read
  abbrev bytes : List ℕ
  bytes = uncovered_datagram e.config.secret p.bytes

  end : EndOk w h n e
  end = let k : EndOk w h n e × BookOk h n node.checkpoint.book = subst (NodeOk w h n) node_is (holds.nodes n) in k.0

  live_some : (i : ℕ) (t : Tunnel) → at e.tunnels i ≡ Some t → i ≡ 0 → ⊥
  live_some i t there z = let lt = (holds.accounts n i 0).some (end.live i t there).made in omega (arith, z, lt)

  -- the tunnel that a copy is for is the one that it reaches
  copy_reaches : (o : ControlOrigin) → IsCopy (h.accounts p.from o.tunnel p.epoch) p o → (i : ℕ) (t : Tunnel) (kh : Header) → at e.tunnels i ≡ Some t
      → t.control.peer ≡ address_of p.from → header_of bytes ≡ Ok kh → IsFor kh (body_of bytes kh) t.control → reached_plain e (address_of p.from) bytes ≡ Some t.control
  copy_reaches o c i t kh there peer read is =
      let b = h.accounts p.from o.tunnel p.epoch in
      let ok_there = holds.accounts p.from o.tunnel p.epoch in
      let r = copy_read codecs again room p.epoch b p o e.config.secret kh ok_there.remote ok_there.spelled c read in
      subst (λ q. reached_plain e q bytes ≡ Some t.control) peer
      (is_reached e end.apart i t there (end.live i t there).local (live_some i t there) bytes kh read r.control
      (λ q opens z. ⊎_elim
      (λ (l : IsLetterRead b o kh bytes).
      ⊎_elim
      (λ (r : IsPlainRead l.letter (body_of bytes kh)).
      let asks = read_opens l.letter.message (body_of bytes kh) r.reads q opens in
      written_opens l.letter.message asks.0 asks.1 r.spelled.written (sym asks.2 ∙ z))
      (λ (r : IsQueryRead l.letter (body_of bytes kh)). let both = sym (query_for_none l.letter (body_of bytes kh) r) ∙ opens in absurd cc)
      l.reads)
      (λ (l : IsNoneRead o kh bytes). empty_opens_none q (ap at_zero (sym l.body) ∙ opens))
      r.says)
      (λ q stops. ⊎_elim
      (λ (l : IsLetterRead b o kh bytes). ⊎_elim
      (λ (r : IsPlainRead l.letter (body_of bytes kh)). (read_stops l.letter.message (body_of bytes kh) r.reads q stops).some)
      (λ (r : IsQueryRead l.letter (body_of bytes kh)). let both = sym (query_for_none l.letter (body_of bytes kh) r) ∙ stops in absurd cc)
      l.reads)
      (λ (l : IsNoneRead o kh bytes). absurd (no_stop codecs q (ap at_zero (sym l.body) ∙ stops)))
      r.says)
      is)

  -- so is the one that a StopCCN of no tunnel is for
  refusal_reaches : (o : ControlOrigin) → IsRefusal h p o → (i : ℕ) (t : Tunnel) (kh : Header) → at e.tunnels i ≡ Some t
      → t.control.peer ≡ address_of p.from → header_of bytes ≡ Ok kh → IsFor kh (body_of bytes kh) t.control → reached_plain e (address_of p.from) bytes ≡ Some t.control
  refusal_reaches o r i t kh there peer read is =
      let k = stop_read codecs r.tunnel o.nr r.result r.error p.bytes e.config.secret kh (refused_fits w h holds p o r) r.nr r.fit r.are read in
      subst (λ q. reached_plain e q bytes ≡ Some t.control) peer
      (is_reached e end.apart i t there (end.live i t there).local (live_some i t there) bytes kh read k.control
      (λ q opens z. (let asks = (opens_said (body_of bytes kh) (StopCcn 0 r.result r.error) q opens k.said).1 in let no : ⊥ = cc in no))
      (λ q stops. (stops_by (body_of bytes kh) (StopCcn 0 r.result r.error) q k.said stops).some) is)

  abbrev Reaches : ControlOrigin → Type 0
  Reaches o = too_old p.epoch o w p.to (reached_plain e (address_of p.from) bytes) ≡ None

  module _ (o : ControlOrigin) (origin_is : p.origin ≡ origin.Control o) (fresh : Reaches o) (i : ℕ) (t : Tunnel) (there : at e.tunnels i ≡ Some t)
      (current : is_current (mode_of t.recovery) ≡ true) (reaches : reached_plain e (address_of p.from) bytes ≡ Some t.control) where
    not_old : too_old p.epoch o w p.to (Some t.control) ≡ None
    not_old = subst (λ q. too_old p.epoch o w p.to q ≡ None) reaches fresh

    live : LiveOk w h n i t
    live = end.live i t there

    near_by : p.epoch ≡ epoch_of w n i → IsYoung o t.control → (p.epoch ≡ epoch_of w n i) × IsNear (h.accounts n i p.epoch) t o
    near_by same y =
        let channel = subst (λ u. ChannelOk h.accounts n i u (h.accounts n i u) t) (sym same) (live.channel current) in
        let counts = channel.taken in
        let taken = y.taken in
        (same, record { taken = omega (arith, counts, taken); acked = y.acked })

    near_copy : IsCopy (h.accounts p.from o.tunnel p.epoch) p o → (p.epoch ≡ epoch_of w n i) × IsNear (h.accounts n i p.epoch) t o
    near_copy copy =
        let d : IsDelivered w p o node i t = record { origin_is = origin_is; there = ap (at w.nodes) to ∙ node_is; live = there; reached_it = reaches; young = not_old } in
        near_by (epoch codecs again room classes w h holds known p o node i t d current copy ∙ ap (λ q. epoch_of w q i) to)
        (young codecs again room classes w h holds known p o node i t d current copy)

    near_refusal : IsRefusal h p o → (p.epoch ≡ epoch_of w n i) × IsNear (h.accounts n i p.epoch) t o
    near_refusal r =
        let here = subst (λ q. standing_of w q t.control.local ≡ standing_of w n i) (sym to) (ap (standing_of w n) live.local) in
        let old = past_of w p.to p.epoch o t.control not_old in
        let low = no_earlier p.epoch o (standing_of w p.to t.control.local) t.control old in
        let none = r.epoch in
        let there_same = ap (λ s. s.epoch) here in
        let same : p.epoch ≡ epoch_of w n i = omega (arith, low, none, there_same) in
        near_by same (same_epoch p.epoch o (standing_of w p.to t.control.local) t.control old (omega (arith, same, there_same)) (ap (λ s. s.lost) here ∙ live.kept current))

  near_of : (q : Origin) → p.origin ≡ q → OriginOk w h p q → refused_by w p node q ≡ None → AreNear w h n e p bytes q
  unfolding refused_by
  near_of (origin.Control o) is sent fresh = λ i t kh there current peer read for_it. ⊎_elim
      (λ (copy : IsCopy (h.accounts p.from o.tunnel p.epoch) p o). near_copy o is fresh i t there current (copy_reaches o copy i t kh there peer read for_it) copy)
      (λ (r : IsRefusal h p o). near_refusal o is fresh i t there current (refusal_reaches o r i t kh there peer read for_it) r)
      sent
  near_of (origin.Data session) is sent fresh = tt
  near_of (origin.Recovery own number empty) is sent fresh = tt

  packet_comes : (k : ℕ) → slice_get w.packets k ≡ Some p → refused_by w p node p.origin ≡ None → IsPacket w h n e (sender_of p.from p.origin) (address_of p.from) bytes
  packet_comes k sent fresh = record {
    packet = p;
    place = k;
    sent = sent;
    ok = ok;
    to = to;
    peer_is = refl;
    secret = e.config.secret;
    bytes_are = refl;
    sender_is = refl;
    near = near_of p.origin refl ok.sent fresh;
  }

-- whatever comes in
module _ (codecs : Codecs) (again : WrittenIsRead) (room : WrittenHasRoom) (classes : ClassIsTrue) (w : World) (h : History)
    (holds : Holds w h) (known : EpochsKnown w h) (n : ℕ) (node : Node) (node_is : at w.nodes n ≡ Some node) where
  no_packet : (ev : Event) (secret : Option (List ℕ)) (peer : ℕ) (bytes : List ℕ) → IsNoDatagram ev → uncovered_event secret ev ≡ Datagram peer bytes → ⊥
  no_packet (Datagram q bs) secret peer bytes none is = none
  no_packet ev secret peer bytes none is = absurd cc

  pub comes_first : (ev : Event) (sender : Option Sender) → ComesIn w n node ev sender → Comes w h n node.end sender (uncovered_event node.end.config.secret ev)
  comes_first ev sender (OfPacket p k sent to fresh ev_is sender_is) peer bytes is =
      let ok = all_at (PacketOk w h) w.packets k p sent holds.packets in
      let both : ◌≡◌ {A = Event} (Datagram (address_of p.from) (uncovered_datagram node.end.config.secret p.bytes)) (Datagram peer bytes) =
      ap (uncovered_event node.end.config.secret) (sym ev_is) ∙ is in
      let same_peer : address_of p.from ≡ peer = cc in
      let same_bytes : uncovered_datagram node.end.config.secret p.bytes ≡ bytes = cc in
      subst (λ s. IsPacket w h n node.end s peer bytes) (sym sender_is)
      (subst (λ q. IsPacket w h n node.end (sender_of p.from p.origin) q bytes) same_peer
      (subst (λ bs. IsPacket w h n node.end (sender_of p.from p.origin) (address_of p.from) bs) same_bytes
      (packet_comes codecs again room classes w h holds known n node node_is p to ok k sent fresh)))
  comes_first ev sender (OfItself none sender_is) peer bytes is = absurd (no_packet ev node.end.config.secret peer bytes none is)
