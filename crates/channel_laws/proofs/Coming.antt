-- What a control message is that came in a step: a copy of a letter of some tunnel, a StopCCN of none, or a message of a recovery tunnel.
use Rattle.std.proofs.Common.{◌≡◌, ◌⊎◌, inl, inr, ⊎_elim, ℕ, ◌<◌, true, List, [], refl, sym, ap, ◌∙◌, subst, Option, Some, None, Ok, arith}
use Rattle.std.specs.Prelude.{is_some, Bool}
use Rattle.l2tp_header.specs.Reading.{header_of, body_of}
use Rattle.control_message.specs.declared.message.Message.{Message}
use Rattle.end_names.specs.Names.{address_of}
use Rattle.end_model.specs.declared.event.Event.{Event}
use Rattle.end_model.specs.declared.out.Origin.{Origin}
use Rattle.end_model.specs.declared.out.Origin.TheVariants as origin
use Rattle.end_model.specs.declared.out.ControlOrigin.{ControlOrigin}
use Rattle.end_model.specs.Reading.{message_in}
use Rattle.end_model.specs.Secrets.{uncovered_datagram}
use Rattle.end_model.specs.End.{End}
use Rattle.world_model.specs.declared.packet.Packet.{Packet}
use Rattle.world_model.specs.World.{World, Sender, sender_of}
use Rattle.step_laws.specs.Arrivals.{Came, CameIn}
use Rattle.frame_laws.specs.Codecs.{Codecs}
use Rattle.channel_laws.specs.Accounts.{Opener, History}
use Rattle.channel_laws.specs.Facts.{IsCopy, IsRefusal, SaysRecovery, IsRecovery, OriginOk, Holds}
use Rattle.channel_laws.specs.Recoveries.{WrittenIsRead, WrittenHasRoom}
use Rattle.channel_laws.specs.Steps.{AreNear, IsPacket, Comes}
use Rattle.channel_laws.proofs.Readings.{CopyRead, StopRead, data_read, copy_read, stop_read, said_recovery, none_read}

pub record FromTunnel (w : World) (h : History) (n : ℕ) (e : End) (sender : Option Sender) (k : Came) (bytes : List ℕ) : Type 0 where
  pub packet : Packet
  pub o : ControlOrigin
  pub copy : IsCopy (h.accounts packet.from o.tunnel packet.epoch) packet o
  pub read : CopyRead (h.accounts packet.from o.tunnel packet.epoch) o copy.tunnel k.header bytes
  pub sender_is : sender ≡ Some (record { node = packet.from; tunnel = o.tunnel })
  pub from : packet.from < 256
  pub to : packet.to ≡ n
  pub peer_is : k.peer ≡ address_of packet.from
  pub origin_is : packet.origin ≡ origin.Control o
  pub secret : Option (List ℕ)
  pub bytes_are : bytes ≡ uncovered_datagram secret packet.bytes
  pub near : AreNear w h n e packet bytes (origin.Control o)

pub record OfNoTunnel (w : World) (h : History) (n : ℕ) (e : End) (sender : Option Sender) (k : Came) (bytes : List ℕ) : Type 0 where
  pub packet : Packet
  pub o : ControlOrigin
  pub refusal : IsRefusal h packet o
  pub read : StopRead refusal.tunnel o.nr refusal.result refusal.error k.header bytes
  pub sender_is : sender ≡ Some (record { node = packet.from; tunnel = o.tunnel })
  pub from : packet.from < 256
  pub to : packet.to ≡ n
  pub peer_is : k.peer ≡ address_of packet.from
  pub origin_is : packet.origin ≡ origin.Control o
  pub secret : Option (List ℕ)
  pub bytes_are : bytes ≡ uncovered_datagram secret packet.bytes
  pub near : AreNear w h n e packet bytes (origin.Control o)

pub record OfRecovery (w : World) (h : History) (n : ℕ) (sender : Option Sender) (k : Came) : Type 0 where
  pub packet : Packet
  pub own : ℕ
  pub empty : Bool
  pub sent : IsRecovery w h packet own empty
  pub tunnel_is : k.header.tunnel ≡ sent.named
  pub says : (k.body ≡ []) ⊎ ((m : Message) × SaysRecovery w h packet own sent.named m × (message_in k.body ≡ Ok m))
  pub sender_is : sender ≡ Some (record { node = packet.from; tunnel = own })
  pub from : packet.from < 256
  pub to : packet.to ≡ n
  pub peer_is : k.peer ≡ address_of packet.from

-- what is there
pub there_so : {X : Type 0} (o : Option X) → is_some o ≡ true → (x : X) × (o ≡ Some x)
there_so None is = absurd cc
there_so (Some x) is = (x, refl)

module _ (w : World) (h : History) (holds : Holds w h) where
  pub attempt_fits : (n a : ℕ) → is_some (h.attempts n a) ≡ true → a < 65536
  attempt_fits n a is = let x = there_so (h.attempts n a) is in (holds.attempts n a x.0 x.1).fits

  pub answer_fits : (n c : ℕ) → is_some (h.answers n c) ≡ true → c < 65536
  answer_fits n c is = let x = there_so (h.answers n c) is in (holds.answers n c x.0 x.1).fits

  named_fits : (p : Packet) (own : ℕ) (empty : Bool) → (r : IsRecovery w h p own empty) → r.named < 65536
  named_fits p own empty r = ⊎_elim
      (λ (z : r.named ≡ 0). omega (arith, z))
      (λ k. ⊎_elim (λ is. attempt_fits p.to r.named is) (λ is. answer_fits p.to r.named is) k)
      r.names

  pub refused_fits : (p : Packet) (o : ControlOrigin) → (r : IsRefusal h p o) → r.tunnel < 65536
  refused_fits p o r = ⊎_elim
      (λ k. (holds.accounts p.to r.tunnel 0).id (λ none. let two : Opener ≡ _ = sym k.0 ∙ none in absurd cc))
      (λ k. (holds.attempts p.to r.tunnel k.0 k.1).fits)
      r.asked

  module _ (codecs : Codecs) (again : WrittenIsRead) (room : WrittenHasRoom) (n : ℕ) (e : End) (sender : Option Sender) (ev : Event) (comes : Comes w h n e sender ev) (k : Came)
      (came : CameIn ev k) where
    is_packet : IsPacket w h n e sender k.peer came.bytes
    is_packet = comes k.peer came.bytes came.is

    abbrev read_bytes : List ℕ
    read_bytes = uncovered_datagram is_packet.secret is_packet.packet.bytes

    read : header_of read_bytes ≡ Ok k.header
    read = ap header_of (sym is_packet.bytes_are) ∙ came.read

    -- by its origin
    by : (g : Origin) → is_packet.packet.origin ≡ g → OriginOk w h is_packet.packet g
        → FromTunnel w h n e sender k came.bytes ⊎ (OfNoTunnel w h n e sender k came.bytes ⊎ OfRecovery w h n sender k)
    by (origin.Control o) is (inl copy) =
        let a = h.accounts is_packet.packet.from o.tunnel is_packet.packet.epoch in
        let ok = holds.accounts is_packet.packet.from o.tunnel is_packet.packet.epoch in
        inl (record {
          packet = is_packet.packet;
          o = o;
          copy = copy;
          read = subst (CopyRead a o copy.tunnel k.header) (sym is_packet.bytes_are)
              (copy_read codecs again room is_packet.packet.epoch a is_packet.packet o is_packet.secret k.header ok.remote ok.spelled copy
              read);
          sender_is = is_packet.sender_is ∙ ap (λ q. sender_of is_packet.packet.from q) is;
          from = is_packet.ok.from;
          to = is_packet.to;
          peer_is = is_packet.peer_is;
          origin_is = is;
          secret = is_packet.secret;
          bytes_are = is_packet.bytes_are;
          near = subst (AreNear w h n e is_packet.packet came.bytes) is is_packet.near;
        })
    by (origin.Control o) is (inr r) =
        inr (inl (record {
          packet = is_packet.packet;
          o = o;
          refusal = r;
          read = subst (StopRead r.tunnel o.nr r.result r.error k.header) (sym is_packet.bytes_are)
              (stop_read codecs r.tunnel o.nr r.result r.error is_packet.packet.bytes is_packet.secret k.header (refused_fits is_packet.packet o r) r.nr r.fit r.are read);
          sender_is = is_packet.sender_is ∙ ap (λ q. sender_of is_packet.packet.from q) is;
          from = is_packet.ok.from;
          to = is_packet.to;
          peer_is = is_packet.peer_is;
          origin_is = is;
          secret = is_packet.secret;
          bytes_are = is_packet.bytes_are;
          near = subst (AreNear w h n e is_packet.packet came.bytes) is is_packet.near;
        }))
    by (origin.Data session) is frame = absurd (data_read codecs is_packet.secret is_packet.packet.bytes k.header frame read came.control)
    by (origin.Recovery own number empty) is r =
        let fits = named_fits is_packet.packet own empty r in
        let body : k.body ≡ body_of read_bytes k.header = came.body_is ∙ ap (λ bs. body_of bs k.header) is_packet.bytes_are in
        let both : (k.header.tunnel ≡ r.named) × ((k.body ≡ []) ⊎ ((m : Message) × SaysRecovery w h is_packet.packet own r.named m × (message_in k.body ≡ Ok m))) =
        ⊎_elim
        (λ q. let s = none_read codecs again room r.named r.number r.nr is_packet.packet.bytes is_packet.secret k.header fits r.nr_fits q.1 read in (s.0, inl (body ∙ s.1)))
        (λ q.
        let s = said_recovery codecs again room w h is_packet.packet own r.named r.number r.nr q.0 is_packet.secret k.header fits r.nr_fits q.1 q.2 q.3 read in
        (s.0, inr (q.0, q.1, ap message_in body ∙ s.1)))
        r.says in
        inr (inr (record {
          packet = is_packet.packet;
          own = own;
          empty = empty;
          sent = r;
          tunnel_is = both.0;
          says = both.1;
          sender_is = is_packet.sender_is ∙ ap (λ q. sender_of is_packet.packet.from q) is;
          from = is_packet.ok.from;
          to = is_packet.to;
          peer_is = is_packet.peer_is;
        }))

    pub heard : FromTunnel w h n e sender k came.bytes ⊎ (OfNoTunnel w h n e sender k came.bytes ⊎ OfRecovery w h n sender k)
    heard = by is_packet.packet.origin refl is_packet.ok.sent
