-- An opening that is declined is the SCCRQ of a tunnel of the node that sent it, or that of an attempt there.
use Rattle.std.proofs.Common.{◌≡◌, ◌⊎◌, inl, inr, ⊎_elim, ℕ, ◌<◌, Bool, true, false, cond, List, [], refl, sym, ap, ap₂, ◌∙◌, subst, Option, Some, Result, Ok, Err, arith}
use Rattle.std.proofs.lemmas.Option.{none-some}
use Rattle.std.specs.Prelude.{is_some, ◌==◌}
use Rattle.avp_codec.specs.declared.avp.Avp.{Avp}
use Rattle.avp_codec.specs.declared.error.AvpError.{AvpError}
use Rattle.avp_codec.specs.Reading.{avps_at, avps_of}
use Rattle.avp_codec.specs.Spelling.{spelling}
use Rattle.wire_base.specs.declared.why.Why.TheVariants as why
use Rattle.l2tp_header.specs.Reading.{body_of}
use Rattle.l2tp_header.specs.Spelling.{control_bytes}
use Rattle.control_message.specs.declared.message.Message.{Message}
use Rattle.control_message.specs.declared.message.Message.TheVariants.{Sccrq, Sccrp, Scccn, StopCcn, Hello, Ocrq, Ocrp, Occn, Icrq, Icrp, Iccn, Cdn, Wen, Sli, Fsq, Fsr}
use Rattle.control_message.specs.declared.message.MessageError.{MessageError}
use Rattle.control_message.specs.declared.message.Opening.{Opening}
use Rattle.control_message.specs.declared.message.Read.{Read}
use Rattle.control_message.specs.declared.message.Read.TheVariants.{Known, Ignored}
use Rattle.control_message.specs.Pairs.{pairs_of}
use Rattle.control_message.specs.Reading.{message_by, kind_by}
use Rattle.end_names.specs.Names.{address_of, node_of}
use Rattle.end_model.specs.declared.event.Addressee.TheVariants.{Opens, Recovers, Stops, Answers, Nobody}
use Rattle.end_model.specs.declared.event.Event.{Event}
use Rattle.end_model.specs.declared.moves.Declined.{Declined}
use Rattle.end_model.specs.declared.moves.Move.TheVariants as move
use Rattle.end_model.specs.declared.moves.Restored.{Restored}
use Rattle.end_model.specs.declared.out.Origin.{Origin}
use Rattle.end_model.specs.Reading.{message_in, pairs_read, message_read, at_zero, zero_pairs, zero_read, message_said}
use Rattle.end_model.specs.End.{End, decline_origin}
use Rattle.world_model.specs.declared.packet.Packet.{Packet}
use Rattle.world_model.specs.World.{World, Sender, Deed, packet_from}
use Rattle.step_laws.specs.Arrivals.{Came, CameIn}
use Rattle.step_laws.specs.Codes.{CodesFit, decline_codes_fit}
use Rattle.step_laws.specs.Moves.{WhyDeclined, AnOpening, ARecovery, AFaultyOpening, AnAnswer, Declines}
use Rattle.step_laws.specs.Opens.{empty_opens_none}
use Rattle.frame_laws.specs.Codecs.{Codecs}
use Rattle.frame_laws.specs.Plain.{IsReadAs, AsAMessage, AsAFault, message_there, for_no_tunnel}
use Rattle.connection_laws.specs.Facts.{IsNoOpening}
use Rattle.connection_laws.proofs.Alike.{IsNoRequest, same_alike, read_sound}
use Rattle.connection_laws.proofs.Hearing.{no_message, first_only}
use Rattle.channel_laws.proofs.Spelled.{letter_same, closing_read, IsPlainRead, IsQueryRead, query_for_none}
use Rattle.channel_laws.specs.Accounts.{Opener, Account, History, declined_by, after}
use Rattle.channel_laws.specs.Facts.{IsCopy, SaysRecovery, AsksFor, Suggests, Confirms, Refuses, OriginOk, PacketOk, Holds}
use Rattle.channel_laws.specs.Recoveries.{WrittenIsRead, WrittenHasRoom}
use Rattle.channel_laws.specs.Steps.{Comes}
use Rattle.channel_laws.proofs.Accepting.{asks_first}
use Rattle.channel_laws.proofs.Coming.{FromTunnel, OfNoTunnel, OfRecovery, heard}
use Rattle.channel_laws.proofs.Declining.{declined_here, attempts_same}
use Rattle.channel_laws.proofs.Linked.{opener_of}
use Rattle.channel_laws.proofs.Main.{opens_none, zero_of}
use Rattle.channel_laws.proofs.Readings.{IsLetterRead, IsNoneRead}
use Rattle.channel_laws.proofs.Waiting.{node_again}

-- ---- SCCRPs that name no tunnel

-- a message is one
abbrev IsReply : Message → Type 0
IsReply m = (o : Opening) × (m ≡ Sccrp o)

known_answers : (avps : List Avp) (m : Message) (r : ℕ) → zero_read avps (Ok (Known m)) ≡ Answers r → IsReply m
unfolding zero_read
known_answers avps (Sccrp o) r h = (o, refl)
known_answers avps (StopCcn tunnel code error) r h = by (tunnel == 0) h
  where
    by : (b : Bool) → cond b (Nobody why.Tunnel) (Stops tunnel) ≡ Answers r → IsReply (StopCcn tunnel code error)
    by true is = absurd cc
    by false is = absurd cc
known_answers avps (Sccrq o) r h = by (is_some o.recovery) h
  where
    by : (b : Bool) → cond b (Recovers o.tunnel) (Opens o.tunnel) ≡ Answers r → IsReply (Sccrq o)
    by true is = absurd cc
    by false is = absurd cc
known_answers avps (Scccn response) r h = absurd cc
known_answers avps Hello r h = absurd cc
known_answers avps (Ocrq session) r h = absurd cc
known_answers avps Ocrp r h = absurd cc
known_answers avps Occn r h = absurd cc
known_answers avps (Icrq session serial calling) r h = absurd cc
known_answers avps (Icrp session) r h = absurd cc
known_answers avps (Iccn speed framing sequenced) r h = absurd cc
known_answers avps (Cdn session code error) r h = absurd cc
known_answers avps Wen r h = absurd cc
known_answers avps Sli r h = absurd cc
known_answers avps (Fsq sessions) r h = absurd cc
known_answers avps (Fsr sessions) r h = absurd cc

read_answers : (avps : List Avp) (x : Result Read MessageError) (m : Message) (r : ℕ) → message_read x ≡ Ok m → zero_read avps x ≡ Answers r → IsReply m
unfolding message_read
read_answers avps (Ok (Known k)) m r said h = let same : k ≡ m = cc in subst IsReply same (known_answers avps k r h)
read_answers avps (Ok (Ignored k)) m r said h = absurd cc
read_answers avps (Err x) m r said h = absurd cc

pairs_answer : (x : Result (List Avp) AvpError) (m : Message) (r : ℕ) → pairs_read x ≡ Ok m → zero_pairs x ≡ Answers r → IsReply m
unfolding pairs_read zero_pairs
pairs_answer (Ok avps) m r said h = read_answers avps (message_said avps) m r said h
pairs_answer (Err x) m r said h = absurd cc

answers_said : (body : List ℕ) (m : Message) (r : ℕ) → message_in body ≡ Ok m → at_zero body ≡ Answers r → IsReply m
unfolding message_in at_zero
answers_said body m r said h = pairs_answer (avps_of body) m r said h

-- a request is none, whatever its number is read as
read_answers_as : (m : Message) (body : List ℕ) → IsReadAs m body → (r : ℕ) → at_zero body ≡ Answers r → IsReply m
read_answers_as m body (AsAMessage avps y pairs reads written alike) r answers =
    let reply = answers_said body y r (message_there body avps y pairs reads) answers in
    (reply.0, same_alike m y alike (subst IsNoRequest (sym reply.1) tt) ∙ reply.1)
read_answers_as m body (AsAFault avps own serial number is small pairs fault kind told) r answers =
    let none = for_no_tunnel body avps own pairs fault kind told in
    absurd cc

-- no pairs are none
empty_answers_none : (r : ℕ) → at_zero [] ≡ Answers r → ⊥
unfolding at_zero zero_pairs zero_read avps_at message_by kind_by
empty_answers_none r h = absurd cc

-- ---- what is declined

-- the opener, whose SCCRQ is its first letter; or the attempt
pub record IsDeclinedFor (h : History) (n : ℕ) (m : Declined) : Type 0 where
  pub to : node_of m.peer < 256
  pub small : m.nr < 65536
  pub asked : (((h.accounts (node_of m.peer) m.remote 0).part ≡ Opener) × ((h.accounts (node_of m.peer) m.remote 0).peer ≡ n) × (m.nr ≡ 1))
      ⊎ ((r : Restored) × (h.attempts (node_of m.peer) m.remote ≡ Some r) × (r.tunnel.peer ≡ address_of n))
  pub fit : CodesFit m.result m.error

module _ (codecs : Codecs) (again : WrittenIsRead) (room : WrittenHasRoom) (w : World) (h : History) (holds : Holds w h) (n : ℕ) (e x : End) (sender : Option Sender) (ev : Event)
    (comes : Comes w h n e sender ev) (m : Declined) (d : Declines e ev m x) where
  abbrev body : List ℕ
  body = body_of d.bytes d.header

  abbrev came : Came
  came = record { peer = m.peer; header = d.header; body = body }

  abbrev in_it : CameIn ev came
  in_it = record { bytes = d.bytes; is = d.is; read = d.read; control = d.control; body_is = refl }

  small : m.nr < 65536
  small = let is = d.nr in omega (arith, is)

  fit : CodesFit m.result m.error
  fit = decline_codes_fit e body m d.why

  -- ---- it is a copy of what a tunnel sent

  module _ (f : FromTunnel w h n e sender came d.bytes) where
    abbrev p : Packet
    p = f.packet

    abbrev a : ℕ → Account
    a u = h.accounts p.from f.o.tunnel u

    node : node_of m.peer ≡ p.from
    node = ap node_of f.peer_is ∙ node_again p.from f.from

    -- which opens a tunnel, since it names none
    unnamed : (a p.epoch).part ≡ Opener
    unnamed = ⊎_elim
        (λ k. k.1)
        (λ (k : (f.copy.tunnel ≡ 0 → ⊥) × (f.copy.tunnel ≡ (a p.epoch).remote)). absurd (k.0 (sym f.read.tunnel_is ∙ d.none)))
        f.copy.named

    first : p.epoch ≡ 0
    first = (opener_of w h p.from f.o.tunnel p.epoch (a p.epoch) (holds.accounts p.from f.o.tunnel p.epoch) unnamed).0

    copy : IsCopy (a 0) p f.o
    copy = subst (λ z. IsCopy (a z) p f.o) first f.copy

    says : IsLetterRead (a 0) f.o d.header d.bytes ⊎ IsNoneRead f.o d.header d.bytes
    says = subst (λ z. IsLetterRead (a z) f.o d.header d.bytes ⊎ IsNoneRead f.o d.header d.bytes) first f.read.says

    by_opening : (o : Opening) → message_in body ≡ Ok (Sccrq o) → m.remote ≡ o.tunnel → IsDeclinedFor h n m
    by_opening o said told = ⊎_elim
        (λ (q : IsLetterRead (a 0) f.o d.header d.bytes).
        let message = letter_same q.letter body q.reads (Sccrq o) said tt in
        let asks = asks_first w h holds p.from f.o.tunnel q.place q.letter o q.there message copy.made in
        let same : h.accounts (node_of m.peer) m.remote 0 ≡ a 0 = ap₂ (λ y z. h.accounts y z 0) node (told ∙ asks.told) in
        let zero = ((holds.accounts p.from f.o.tunnel 0).from_none refl).0 in
        let place = asks.at_first in
        let at_place = q.at_place in
        let ns = f.read.ns in
        let nr = d.nr in
        record {
          to = (let lt = f.from in omega (arith, lt, node));
          small = small;
          asked = inl (ap (λ (y : Account). y.part) same ∙ asks.part, ap (λ (y : Account). y.peer) same ∙ (sym copy.to ∙ f.to), omega (arith, zero, place, at_place, ns, nr));
          fit = fit;
        })
        (λ (q : IsNoneRead f.o d.header d.bytes). absurd (no_message codecs (Sccrq o) (ap message_in (sym q.body) ∙ said)))
        says

    -- it sends no SCCRP
    no_reply : (q : IsLetterRead (a 0) f.o d.header d.bytes) → IsReply q.letter.message → ⊥
    no_reply q reply =
        let own = subst (λ z. (a z).part ≡ Opener) first unnamed in
        let begins = (opener_of w h p.from f.o.tunnel 0 (a 0) (holds.accounts p.from f.o.tunnel 0) own).1.begins in
        let opening = first_only f.o.tunnel Sccrq (a 0).given begins q.place q.letter q.there (λ (k : IsNoOpening q.letter.message). subst IsNoOpening reply.1 k) in
        let two : Sccrp reply.0 ≡ Sccrq opening.1.0 = sym reply.1 ∙ opening.1.1 in
        let no : ⊥ = cc in no

    by_why : WhyDeclined e body m → IsDeclinedFor h n m
    by_why (AnOpening o said plain told unknown against) = by_opening o said told
    by_why (ARecovery o said r asks told against) = by_opening o said told
    by_why (AFaultyOpening g to unknown fault on result error) = absurd (⊎_elim
        (λ (q : IsLetterRead (a 0) f.o d.header d.bytes).
        let none = read_sound q.letter.message body (closing_read q.letter body q.reads g fault).reads in
        let no : ⊥ = cc in no)
        (λ (q : IsNoneRead f.o d.header d.bytes). empty_opens_none m.remote (ap at_zero (sym q.body) ∙ to))
        says)
    by_why (AnAnswer to result error) = absurd (⊎_elim
        (λ (q : IsLetterRead (a 0) f.o d.header d.bytes). ⊎_elim
        (λ (r : IsPlainRead q.letter body). no_reply q (read_answers_as q.letter.message body r.reads m.remote to))
        (λ (r : IsQueryRead q.letter body). let both = sym (query_for_none q.letter body r) ∙ to in absurd cc)
        q.reads)
        (λ (q : IsNoneRead f.o d.header d.bytes). empty_answers_none m.remote (ap at_zero (sym q.body) ∙ to))
        says)

  -- ---- a StopCCN of no tunnel names one

  of_none : OfNoTunnel w h n e sender came d.bytes → ⊥
  of_none f =
      let z : f.refusal.tunnel ≡ 0 = sym f.read.tunnel_is ∙ d.none in
      ⊎_elim
      (λ q. (let lt = (holds.accounts f.packet.to f.refusal.tunnel 0).some (λ none. let two = sym q.0 ∙ none in cc) in omega (arith, z, lt)))
      (λ q. (let lt = (holds.attempts f.packet.to f.refusal.tunnel q.0 q.1).some in omega (arith, z, lt)))
      f.refusal.asked

  -- ---- it is of a recovery

  module _ (f : OfRecovery w h n sender came) where
    none : f.sent.named ≡ 0
    none = sym f.tunnel_is ∙ d.none

    node_there : node_of m.peer ≡ f.packet.from
    node_there = ap node_of f.peer_is ∙ node_again f.packet.from f.from

    to_node : node_of m.peer < 256
    to_node = let lt = f.from in let same = node_there in omega (arith, lt, same)

    silent : came.body ≡ [] → WhyDeclined e body m → ⊥
    silent is (AnOpening o said plain told unknown against) = no_message codecs (Sccrq o) (ap message_in (sym is) ∙ said)
    silent is (ARecovery o said r asks told against) = no_message codecs (Sccrq o) (ap message_in (sym is) ∙ said)
    silent is (AFaultyOpening g to unknown found on result error) = empty_opens_none m.remote (ap at_zero (sym is) ∙ to)
    silent is (AnAnswer to result error) = empty_answers_none m.remote (ap at_zero (sym is) ∙ to)

    -- an attempt's
    tried : (r : Restored) → h.attempts f.packet.from f.own ≡ Some r → r.tunnel.peer ≡ address_of f.packet.to → m.remote ≡ f.own → IsDeclinedFor h n m
    tried r is peer told = record {
      to = to_node;
      small = small;
      asked = inr (r, ap₂ h.attempts node_there told ∙ is, peer ∙ ap address_of f.to);
      fit = fit;
    }

    -- other messages open nothing
    other : (q : Message) → SaysRecovery w h f.packet f.own f.sent.named q → message_in body ≡ Ok q → ((o : Opening) → q ≡ Sccrq o → ⊥) → ((o : Opening) → q ≡ Sccrp o → ⊥)
        → WhyDeclined e body m → ⊥
    other q says said opens replies (AnOpening o said_there plain told unknown against) = opens o (let both = sym said ∙ said_there in cc)
    other q says said opens replies (ARecovery o said_there r asks told against) = opens o (let both = sym said ∙ said_there in cc)
    other q says said opens replies (AFaultyOpening g to unknown is on result error) =
        let z = zero_of q body said in opens_none w h f.packet f.own f.sent.named m.remote z.avps q says (sym z.is ∙ to)
    other q says said opens replies (AnAnswer to result error) = let reply = answers_said body q m.remote said to in replies reply.0 reply.1

    by_message : (q : Message) → SaysRecovery w h f.packet f.own f.sent.named q → message_in body ≡ Ok q → WhyDeclined e body m → IsDeclinedFor h n m
    by_message _ (AsksFor r y is peer id recovery draw) said (AnOpening o said_there plain told unknown against) =
        let both : ◌≡◌ {A = Message} (Sccrq y) (Sccrq o) = (let two = sym said ∙ said_there in cc) in
        let one : y ≡ o = cc in
        absurd (none-some recovery.0 (sym plain ∙ (ap (λ (z : Opening). z.recovery) (sym one) ∙ recovery.1)))
    by_message _ (AsksFor r y is peer id recovery draw) said (ARecovery o said_there k asks told against) =
        let both : ◌≡◌ {A = Message} (Sccrq y) (Sccrq o) = (let two = sym said ∙ said_there in cc) in
        let one : y ≡ o = cc in
        tried r is peer (told ∙ (ap (λ (z : Opening). z.tunnel) (sym one) ∙ id))
    by_message _ (AsksFor r y is peer id recovery draw) said (AFaultyOpening g to unknown found on result error) =
        let z = zero_of (Sccrq y) body said in absurd (opens_none w h f.packet f.own f.sent.named m.remote z.avps (Sccrq y) (AsksFor r y is peer id recovery draw) (sym z.is ∙ to))
    by_message _ (AsksFor r y is peer id recovery draw) said (AnAnswer to result error) =
        let reply = answers_said body (Sccrq y) m.remote said to in let two = reply.1 in absurd cc
    by_message _ (Suggests g o is to id suggested attempt) said why =
        let tried_there = (holds.answers f.packet.from f.own g is) in
        let lt = (holds.attempts (node_of g.peer) g.attempt tried_there.attempt tried_there.attempted).some in
        let z = none in
        absurd (omega (arith, lt, attempt, z))
    by_message _ (Confirms g response is attempt from le) said why =
        let lt = (holds.answers f.packet.to f.sent.named g is).some in let z = none in absurd (omega (arith, lt, z))
    by_message _ (Refuses result error codes) said why =
        absurd (other (StopCcn f.own result error) (Refuses result error codes) said (λ o same. (let two : StopCcn f.own result error ≡ Sccrq o = same in cc))
        (λ o same. (let two : StopCcn f.own result error ≡ Sccrp o = same in cc)) why)

  pub declined_for : IsDeclinedFor h n m
  declined_for = ⊎_elim
      (λ f. by_why f d.why)
      (λ r. ⊎_elim
      (λ f. absurd (of_none f))
      (λ (f : OfRecovery w h n sender came). ⊎_elim
      (λ (silence : came.body ≡ []). absurd (silent f silence d.why))
      (λ q. by_message f q.0 q.1 q.2 d.why)
      f.says) r)
      (heard w h holds codecs again room n e sender ev comes came in_it)

-- ---- the StopCCN, behind the move

pub decline_sent : (v : World) (h : History) (d : Deed) (n : ℕ) (m : Declined) → n < 256 → d.move ≡ move.Declined m → IsDeclinedFor h n m → (peer : ℕ) (bytes : List ℕ) (o : Origin)
    → peer ≡ m.peer → bytes ≡ control_bytes m.remote 0 0 m.nr (spelling (pairs_of (StopCcn 0 m.result m.error))) → o ≡ decline_origin m.nr
    → PacketOk v (after h d) (packet_from n (node_of peer) bytes o 0)
decline_sent v h d n m lt is for peer bytes o peer_is are origin_is =
    let q = node_of m.peer in
    let same = ap node_of peer_is in
    record {
      from = lt;
      to = (let to = for.to in omega (arith, to, same));
      sent = subst (λ k. OriginOk v (after h d) (packet_from n (node_of peer) bytes o 0) k) (sym origin_is) (inr (record {
        none = refl;
        ns = refl;
        nr = for.small;
        some = refl;
        epoch = refl;
        tunnel = m.remote;
        asked = subst (λ z. (((after h d).accounts z m.remote 0).part ≡ Opener) × (((after h d).accounts z m.remote 0).peer ≡ n) × (((after h d).accounts z m.remote 0).declined ≡ true) × (m.nr ≡ 1)
            ⊎ ((r : Restored) × ((after h d).attempts z m.remote ≡ Some r) × (r.tunnel.peer ≡ address_of n))) (sym same)
            (⊎_elim
            (λ k.
            let now : (after h d).accounts q m.remote 0 ≡ record (h.accounts q m.remote 0) { declined = true } =
            declined_here h d m is ∙ ap (λ y. declined_by y (h.accounts q m.remote 0)) k.0 in
            inl (ap (λ (y : Account). y.part) now ∙ k.0, ap (λ (y : Account). y.peer) now ∙ k.1, ap (λ (y : Account). y.declined) now, k.2))
            (λ k. inr (k.0, attempts_same h d m is q m.remote ∙ k.1, k.2))
            for.asked);
        result = m.result;
        error = m.error;
        fit = for.fit;
        are = are;
      }));
    }
