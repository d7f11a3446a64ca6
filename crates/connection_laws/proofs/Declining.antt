-- An opening is declined: it is the SCCRQ of a tunnel of the sender's, and no end changes.
use Rattle.std.proofs.Common.{◌≡◌, inr, ⊎_elim, ℕ, ◌+◌, ◌<◌, Bool, true, false, cond, List, [], refl, sym, ap, ap₂, ◌∙◌, subst, Option, Result, Ok, Err, arith}
use Rattle.std.specs.Prelude.{◌==◌, is_some}
use Rattle.avp_codec.specs.declared.avp.Avp.{Avp}
use Rattle.avp_codec.specs.declared.error.AvpError.{AvpError}
use Rattle.avp_codec.specs.Reading.{avps_at, avps_of}
use Rattle.avp_codec.specs.Spelling.{spelling}
use Rattle.wire_base.specs.declared.why.Why.TheVariants as why
use Rattle.l2tp_header.specs.Spelling.{control_bytes}
use Rattle.control_message.specs.declared.message.Message.{Message}
use Rattle.control_message.specs.declared.message.Message.TheVariants.{Sccrq, Sccrp, Scccn, StopCcn, Hello, Ocrq, Ocrp, Occn, Icrq, Icrp, Iccn, Cdn, Wen, Sli, Fsq, Fsr}
use Rattle.control_message.specs.declared.message.MessageError.{MessageError}
use Rattle.control_message.specs.declared.message.Opening.{Opening}
use Rattle.control_message.specs.declared.message.Read.{Read}
use Rattle.control_message.specs.declared.message.Read.TheVariants.{Known, Ignored}
use Rattle.control_message.specs.Pairs.{pairs_of}
use Rattle.control_message.specs.Reading.{message_by, kind_by}
use Rattle.recv_window.specs.Window.{on_wire}
use Rattle.end_model.specs.declared.event.Addressee.TheVariants.{Opens, Recovers, Stops, Answers, Nobody}
use Rattle.end_model.specs.declared.event.Event.{Event}
use Rattle.end_model.specs.declared.moves.Declined.{Declined}
use Rattle.end_model.specs.declared.moves.Move.TheVariants as move
use Rattle.end_model.specs.declared.out.Origin.{Origin}
use Rattle.end_names.specs.Names.{node_of}
use Rattle.l2tp_header.specs.Reading.{body_of}
use Rattle.end_model.specs.Reading.{message_in, pairs_read, message_read, at_zero, zero_pairs, zero_read, message_said}
use Rattle.end_model.specs.End.{End, decline_origin}
use Rattle.world_model.specs.World.{Sender, Deed, packet_from}
use Rattle.step_laws.specs.Moves.{WhyDeclined, AnOpening, ARecovery, AFaultyOpening, AnAnswer, Declines}
use Rattle.step_laws.specs.Opens.{empty_opens_none}
use Rattle.frame_laws.specs.Codecs.{Codecs}
use Rattle.frame_laws.specs.Plain.{IsReadAs, AsAMessage, AsAFault, message_there, for_no_tunnel}
use Rattle.connection_laws.proofs.Alike.{IsNoRequest, same_alike, read_same, read_sound}
use Rattle.connection_laws.specs.Accounts.{Account}
use Rattle.connection_laws.specs.Facts.{Accounts, IsNoOpening, OriginOk, PacketOk, Within}
use Rattle.connection_laws.specs.Steps.{IsOpening, DeclinesAreOfOpenings}
use Rattle.connection_laws.proofs.Keeps.{after, IsMoved}
use Rattle.connection_laws.proofs.Written.{node_again}
use Rattle.connection_laws.proofs.Staying.{opening_stays, within_stays, WasOpening}
use Rattle.connection_laws.proofs.Hearing.{opener_of, first_only, sccrq_of, unnamed_opener, IsLetterRead, IsNoneRead, FromPeer, DeclinedByPeer, letter_said, from_peer}

-- ---- SCCRPs that name no tunnel

-- a message is one
abbrev IsReply : Message → Type 0
IsReply m = (o : Opening) × (m ≡ Sccrp o)

known_answers : (avps : List Avp) (m : Message) (r : ℕ) → zero_read avps (Ok (Known m)) ≡ Answers r → IsReply m
unfolding zero_read
known_answers avps (Sccrp o) r h = (o, refl)
known_answers avps (StopCcn tunnel code error) r h = by (tunnel == 0) h
  where
    by : (b : Bool) → cond b (Nobody why.Tunnel) (Stops tunnel) ≡ Answers r → IsReply (StopCcn tunnel code error)
    by true is = absurd cc
    by false is = absurd cc
known_answers avps (Sccrq o) r h = by (is_some o.recovery) h
  where
    by : (b : Bool) → cond b (Recovers o.tunnel) (Opens o.tunnel) ≡ Answers r → IsReply (Sccrq o)
    by true is = absurd cc
    by false is = absurd cc
known_answers avps (Scccn response) r h = absurd cc
known_answers avps Hello r h = absurd cc
known_answers avps (Ocrq session) r h = absurd cc
known_answers avps Ocrp r h = absurd cc
known_answers avps Occn r h = absurd cc
known_answers avps (Icrq session serial calling) r h = absurd cc
known_answers avps (Icrp session) r h = absurd cc
known_answers avps (Iccn speed framing sequenced) r h = absurd cc
known_answers avps (Cdn session code error) r h = absurd cc
known_answers avps Wen r h = absurd cc
known_answers avps Sli r h = absurd cc
known_answers avps (Fsq sessions) r h = absurd cc
known_answers avps (Fsr sessions) r h = absurd cc

read_answers : (avps : List Avp) (x : Result Read MessageError) (m : Message) (r : ℕ) → message_read x ≡ Ok m → zero_read avps x ≡ Answers r → IsReply m
unfolding message_read
read_answers avps (Ok (Known k)) m r said h = let same : k ≡ m = cc in subst IsReply same (known_answers avps k r h)
read_answers avps (Ok (Ignored k)) m r said h = absurd cc
read_answers avps (Err x) m r said h = absurd cc

pairs_answer : (x : Result (List Avp) AvpError) (m : Message) (r : ℕ) → pairs_read x ≡ Ok m → zero_pairs x ≡ Answers r → IsReply m
unfolding pairs_read zero_pairs
pairs_answer (Ok avps) m r said h = read_answers avps (message_said avps) m r said h
pairs_answer (Err x) m r said h = absurd cc

answers_said : (body : List ℕ) (m : Message) (r : ℕ) → message_in body ≡ Ok m → at_zero body ≡ Answers r → IsReply m
unfolding message_in at_zero
answers_said body m r said h = pairs_answer (avps_of body) m r said h

-- a request is none, whatever its number is read as
read_answers_as : (m : Message) (body : List ℕ) → IsReadAs m body → (r : ℕ) → at_zero body ≡ Answers r → IsReply m
read_answers_as m body (AsAMessage avps y pairs reads written alike) r answers =
    let reply = answers_said body y r (message_there body avps y pairs reads) answers in
    (reply.0, same_alike m y alike (subst IsNoRequest (sym reply.1) tt) ∙ reply.1)
read_answers_as m body (AsAFault avps own serial number is small pairs fault kind told) r answers =
    let none = for_no_tunnel body avps own pairs fault kind told in
    absurd cc

-- no pairs are none
empty_answers_none : (r : ℕ) → at_zero [] ≡ Answers r → ⊥
unfolding at_zero zero_pairs zero_read avps_at message_by kind_by
empty_answers_none r h = absurd cc

reply_opens : (m : Message) (o : Opening) → m ≡ Sccrp o → IsNoOpening m → ⊥
reply_opens m o e h = subst IsNoOpening e h

-- ---- what is declined

module _ (codecs : Codecs) (accs : Accounts) (n : ℕ) (e x : End) (sender : Option Sender) (ev : Event) (within : Within accs n e sender ev) (m : Declined)
    (d : Declines e ev m x) where
  abbrev body : List ℕ
  body = body_of d.bytes d.header

  -- it is a copy of what a tunnel sent
  module _ (f : FromPeer accs n e sender ev within.comes m.peer d.header d.bytes) where
    abbrev b : Account
    b = accs f.packet.from f.o.tunnel

    node : node_of m.peer ≡ f.packet.from
    node = ap node_of f.peer_is ∙ node_again f.packet.from f.from

    -- an SCCRQ is the first letter of an opener
    by_opening : (o : Opening) → message_in body ≡ Ok (Sccrq o) → m.remote ≡ o.tunnel → IsOpening accs n m
    by_opening o said told =
        let q = letter_said codecs b f.o d.header d.bytes (Sccrq o) f.read said in
        let message = read_same q.letter.message body q.reads (Sccrq o) said tt in
        let asks = sccrq_of accs f.packet.from f.o.tunnel (within.accounts f.packet.from f.o.tunnel) f.copy.made f.o.ns q.letter o q.there message in
        let same : accs (node_of m.peer) m.remote ≡ b = ap₂ accs node (told ∙ asks.2) in
        record {
          opener = ap (λ (a : Account). a.part) same ∙ asks.0;
          peer = ap (λ (a : Account). a.peer) same ∙ sym f.copy.to ∙ f.to;
          nr = d.nr ∙ ap (λ (k : ℕ). on_wire (k + 1)) (f.read.ns ∙ ap (λ (k : ℕ). on_wire k) asks.1);
        }

    -- an opener, which sends what names none, sends no SCCRP
    no_reply : (q : IsLetterRead b f.o d.header d.bytes) → IsReply q.letter.message → ⊥
    no_reply q reply =
        let own = unnamed_opener b f.o d.header.tunnel f.read.tunnel d.none in
        let begins = (opener_of accs f.packet.from f.o.tunnel b (within.accounts f.packet.from f.o.tunnel) own).begins in
        let first = first_only f.o.tunnel Sccrq b.given begins f.o.ns q.letter q.there (reply_opens q.letter.message reply.0 reply.1) in
        let asks = first.1.1 in
        let is = reply.1 in
        let no : ⊥ = cc in no

    by_why : WhyDeclined e body m → IsOpening accs n m
    by_why (AnOpening o said plain told unknown against) = by_opening o said told
    by_why (ARecovery o said r asks told against) = by_opening o said told
    by_why (AFaultyOpening g to unknown is on result error) = absurd (⊎_elim
        (λ (q : IsLetterRead b f.o d.header d.bytes).
        let none = read_sound q.letter.message body q.reads in
        let no : ⊥ = cc in no)
        (λ (q : IsNoneRead f.o d.header d.bytes). empty_opens_none m.remote (let t = to in rw q.body at t))
        f.read.says)
    by_why (AnAnswer to result error) = absurd (⊎_elim
        (λ (q : IsLetterRead b f.o d.header d.bytes). no_reply q (read_answers_as q.letter.message body q.reads m.remote to))
        (λ (q : IsNoneRead f.o d.header d.bytes). empty_answers_none m.remote (let t = to in rw q.body at t))
        f.read.says)

  -- a StopCCN of no tunnel names one
  is_opening : IsOpening accs n m
  is_opening = ⊎_elim
      (λ (f : FromPeer accs n e sender ev within.comes m.peer d.header d.bytes). by_why f d.why)
      (λ (r : DeclinedByPeer accs n e sender ev within.comes m.peer d.header d.bytes).
      let none = d.none in
      let some = r.some in
      let named = r.read.tunnel_is in
      absurd (omega arith))
      (from_peer codecs accs n e sender ev within m.peer d.header d.bytes d.is d.read d.control)

pub declines_are_of_openings : Codecs → DeclinesAreOfOpenings
declines_are_of_openings codecs accs n e x sender ev within m d = is_opening codecs accs n e x sender ev within m d

-- ---- the move

pub declined_keeps : Codecs → (accs : Accounts) (n : ℕ) (e x : End) (sender : Option Sender) (moment : ℕ) (ev : Event) (d : Deed) (m : Declined)
    → IsMoved accs n e x sender moment ev (move.Declined m) d → Within (after accs d) n x sender ev
declined_keeps codecs accs n e x sender moment ev d m h =
    let opening = declines_are_of_openings codecs accs n e x sender ev h.within m h.does in
    subst (λ (y : End). Within (after accs d) n y sender ev) (sym h.does.after)
    (within_stays accs (after accs d) (opening_stays accs n d m h.deed.move_is opening) n e sender ev h.within)

-- ---- the StopCCN

pub declined_ok : (ms : Accounts) (n : ℕ) → n < 256 → (m : Declined) → WasOpening ms n m → (peer : ℕ) (bytes : List ℕ) (o : Origin) → peer ≡ m.peer
    → bytes ≡ control_bytes m.remote 0 0 m.nr (spelling (pairs_of (StopCcn 0 m.result m.error))) → o ≡ decline_origin m.nr
    → PacketOk ms (packet_from n (node_of peer) bytes o 0)
declined_ok ms n lt m was peer bytes o peer_is are is =
    let opener = was.opener in
    let goes = was.peer in
    let told = was.declined in
    record {
      from = lt;
      epoch = refl;
      sent = subst (λ (q : Origin). OriginOk ms (packet_from n (node_of peer) bytes o 0) q) (sym is) (inr (record {
        none = refl;
        ns = refl;
        nr = was.nr;
        some = refl;
        tunnel = m.remote;
        opener = rw peer_is opener;
        peer = rw peer_is goes;
        declined = rw peer_is told;
        result = m.result;
        error = m.error;
        fit = was.fit;
        are = are ∙ ap (λ (k : ℕ). control_bytes m.remote 0 0 k (spelling (pairs_of (StopCcn 0 m.result m.error)))) was.nr;
      }));
    }
