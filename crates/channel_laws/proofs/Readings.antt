-- What a packet is read as, with whatever secret: a copy of a letter as that letter, a letter of a recovery tunnel as it was written, and what says nothing
-- as nothing.
use Rattle.std.proofs.Common.{◌≡◌, ◌⊎◌, inl, inr, ⊎_elim, ℕ, ◌+◌, ◌<◌, ◌≤◌, true, false, List, [], length, refl, sym, ap, ◌∙◌, Option, Some, Ok, arith}
use Rattle.std.proofs.lemmas.Bool.{true≢false}
use Rattle.std.specs.Prelude.{slice_get, unwrap_or}
use Rattle.std.specs.List.{AllByRecursion}
use Rattle.l2tp_header.specs.declared.header.Header.{Header}
use Rattle.l2tp_header.specs.Again.{control_header}
use Rattle.l2tp_header.specs.Spelling.{control_bytes, data_bytes}
use Rattle.l2tp_header.specs.Reading.{header_of, body_of}
use Rattle.avp_codec.specs.Spelling.{spelling}
use Rattle.control_message.specs.declared.kind.Kinds.TheVariants.{Queries}
use Rattle.control_message.specs.declared.message.Message.{Message}
use Rattle.control_message.specs.declared.message.Message.TheVariants.{StopCcn}
use Rattle.control_message.specs.Grammar.{IsKnownTo}
use Rattle.control_message.specs.Pairs.{pairs_of, IsWritten}
use Rattle.recv_window.specs.Window.{on_wire}
use Rattle.end_model.specs.declared.out.ControlOrigin.{ControlOrigin}
use Rattle.end_model.specs.Reading.{message_in}
use Rattle.end_model.specs.Secrets.{uncovered_datagram}
use Rattle.world_model.specs.declared.packet.Packet.{Packet}
use Rattle.world_model.specs.World.{World}
use Rattle.step_laws.specs.Letters.{Letter}
use Rattle.step_laws.specs.Codes.{CodesFit}
use Rattle.frame_laws.specs.Codecs.{Codecs}
use Rattle.frame_laws.specs.Written.{IsWritten as IsWrittenPlainly}
use Rattle.frame_laws.specs.Plain.{IsReadAs, AsAMessage, stays_plain, hides_nothing, letter_stays, message_there}
use Rattle.connection_laws.specs.Facts.{IsData}
use Rattle.connection_laws.proofs.Plain.{on_wire_fits, nothing_read, data_plain}
use Rattle.connection_laws.proofs.Refusals.{same_header, message_again}
use Rattle.channel_laws.proofs.Spelled.{ReadsLetter, letter_read}
use Rattle.channel_laws.specs.Accounts.{Account, History}
use Rattle.channel_laws.specs.Facts.{Says, ALetter, Nothing, IsCopy, SaysRecovery, AsksFor, Suggests, Confirms, Refuses, IsSpelledIn}
use Rattle.channel_laws.specs.Recoveries.{WrittenIsRead, WrittenHasRoom}
use Rattle.channel_laws.proofs.Told.{all_at}

-- the header of a control message, and what it has behind that
pub record ControlRead (tunnel session ns nr : ℕ) (pairs bytes : List ℕ) (h : Header) : Type 0 where
  pub control : h.control ≡ true
  pub tunnel_is : h.tunnel ≡ tunnel
  pub session_is : h.session ≡ session
  pub ns_is : unwrap_or h.ns 0 ≡ ns
  pub nr_is : unwrap_or h.nr 0 ≡ nr
  pub body : body_of bytes h ≡ pairs

-- a letter of the sender's, by its place
pub record IsLetterRead (a : Account) (o : ControlOrigin) (h : Header) (bytes : List ℕ) : Type 0 where
  pub letter : Letter
  pub place : ℕ
  pub some : o.empty ≡ false
  pub at_place : o.ns ≡ a.first_given + place
  pub there : slice_get a.given place ≡ Some letter
  pub session : h.session ≡ letter.session
  pub reads : ReadsLetter letter (body_of bytes h)

-- or none
pub record IsNoneRead (o : ControlOrigin) (h : Header) (bytes : List ℕ) : Type 0 where
  pub none : o.empty ≡ true
  pub body : body_of bytes h ≡ []

pub record CopyRead (a : Account) (o : ControlOrigin) (tunnel : ℕ) (h : Header) (bytes : List ℕ) : Type 0 where
  pub control : h.control ≡ true
  pub tunnel_is : h.tunnel ≡ tunnel
  pub ns : unwrap_or h.ns 0 ≡ on_wire o.ns
  pub nr : unwrap_or h.nr 0 ≡ on_wire o.nr
  pub says : IsLetterRead a o h bytes ⊎ IsNoneRead o h bytes

-- a StopCCN of no tunnel
pub record StopRead (tunnel told result : ℕ) (error : Option ℕ) (h : Header) (bytes : List ℕ) : Type 0 where
  pub control : h.control ≡ true
  pub tunnel_is : h.tunnel ≡ tunnel
  pub ns : unwrap_or h.ns 0 ≡ 0
  pub nr : unwrap_or h.nr 0 ≡ told
  pub said : message_in (body_of bytes h) ≡ Ok (StopCcn 0 result error)
  pub reads : IsReadAs (StopCcn 0 result error) (body_of bytes h)

-- what a recovery says is known to every reader
known_of : (w : World) (h : History) (p : Packet) (own named : ℕ) (m : Message) → SaysRecovery w h p own named m → IsKnownTo m Queries
known_of w h p own named _ (AsksFor r o is peer id recovery draw) = tt
known_of w h p own named _ (Suggests f o is to id suggested attempt) = tt
known_of w h p own named _ (Confirms f response is attempt from le) = tt
known_of w h p own named _ (Refuses result error fit) = tt

module _ (codecs : Codecs) where
  -- of a control message the header and the pairs
  control_read : (tunnel session ns nr : ℕ) (pairs bytes : List ℕ) (h : Header) → tunnel < 65536 → session < 65536 → ns < 65536 → nr < 65536 → length pairs ≤ 65523
      → bytes ≡ control_bytes tunnel session ns nr pairs → header_of bytes ≡ Ok h → ControlRead tunnel session ns nr pairs bytes h
  control_read tunnel session ns nr pairs bytes h t s a b le are e =
      let made = control_bytes tunnel session ns nr pairs in
      let k = control_header tunnel session ns nr (length pairs) in
      let c = codecs.control tunnel session ns nr pairs t s a b le in
      let same : h ≡ k = same_header codecs made h k pairs c (rw are at e) in
      rw (same, are) (record { control = refl; tunnel_is = refl; session_is = refl; ns_is = refl; nr_is = refl; body = c.bounds })

  -- a data message is no control message
  pub data_read : (secret : Option (List ℕ)) (bytes : List ℕ) (h : Header) → IsData bytes → header_of (uncovered_datagram secret bytes) ≡ Ok h → h.control ≡ true → ⊥
  data_read secret bytes h d e control =
      let made = data_bytes d.tunnel d.session d.number d.frame in
      let c = codecs.frame d.tunnel d.session d.number d.frame d.tunnel_fits d.session_fits d.number_fits in
      let plain : header_of bytes ≡ Ok h = ap header_of (sym (data_plain codecs secret bytes d)) ∙ e in
      true≢false (sym control ∙ ap (λ (x : Header). x.control) (same_header codecs made h _ _ c (let a = d.are in rw a at plain)))

  -- whatever secret it is read with
  pub copy_read : (again : WrittenIsRead) (room : WrittenHasRoom) (epoch : ℕ) (a : Account) (p : Packet) (o : ControlOrigin)
      (secret : Option (List ℕ)) (h : Header) → a.remote < 65536 → AllByRecursion (IsSpelledIn epoch) a.given
      → (copy : IsCopy a p o) → header_of (uncovered_datagram secret p.bytes) ≡ Ok h → CopyRead a o copy.tunnel h (uncovered_datagram secret p.bytes)
  copy_read again room epoch a p o secret h fits spelled copy e = by copy.says
    where
      t : copy.tunnel < 65536
      t = ⊎_elim (λ k. let z = k.0 in omega arith) (λ k. let z = k.1 in omega arith) copy.named

      bytes : List ℕ
      bytes = uncovered_datagram secret p.bytes

      by : Says a o copy.tunnel p.bytes → CopyRead a o copy.tunnel h bytes
      by (ALetter l place full at_place there are) =
          let s = all_at (IsSpelledIn epoch) a.given place l there spelled in
          let u = letter_read codecs again room secret epoch l copy.tunnel o.ns o.nr p.bytes t are s in
          let r = control_read copy.tunnel l.session (on_wire o.ns) (on_wire o.nr) u.body bytes h t u.session (on_wire_fits o.ns)
          (on_wire_fits o.nr) u.few u.is e in
          record {
            control = r.control;
            tunnel_is = r.tunnel_is;
            ns = r.ns_is;
            nr = r.nr_is;
            says = inl (record {
              letter = l;
              place = place;
              some = full;
              at_place = at_place;
              there = there;
              session = r.session_is;
              reads = rw r.body u.reads;
            });
          }
      by (Nothing empty are) =
          let r = control_read copy.tunnel 0 (on_wire o.ns) (on_wire o.nr) [] bytes h t (omega arith) (on_wire_fits o.ns) (on_wire_fits o.nr) (omega arith)
          (nothing_read codecs secret copy.tunnel o.ns o.nr p.bytes t are) e in
          record { control = r.control; tunnel_is = r.tunnel_is; ns = r.ns_is; nr = r.nr_is; says = inr (record { none = empty; body = r.body }) }

  pub stop_read : (tunnel told result : ℕ) (error : Option ℕ) (bytes : List ℕ) (secret : Option (List ℕ)) (h : Header) → tunnel < 65536 → told < 65536 → CodesFit result error
      → bytes ≡ control_bytes tunnel 0 0 told (spelling (pairs_of (StopCcn 0 result error))) → header_of (uncovered_datagram secret bytes) ≡ Ok h
      → StopRead tunnel told result error h (uncovered_datagram secret bytes)
  stop_read tunnel told result error bytes secret h t small fit are e =
      let m = StopCcn 0 result error in
      let written : IsWrittenPlainly m = (omega arith, fit.0, fit.1) in
      let stays = ap (uncovered_datagram secret) are ∙ letter_stays codecs secret tunnel 0 0 told m t (omega arith) (omega arith) small written in
      let r = control_read tunnel 0 0 told (spelling (pairs_of m)) (uncovered_datagram secret bytes) h t (omega arith) (omega arith) small (codecs.room m written) stays e in
      record {
        control = r.control;
        tunnel_is = r.tunnel_is;
        ns = r.ns_is;
        nr = r.nr_is;
        said = rw r.body (message_again codecs m written);
        reads = rw r.body (AsAMessage (pairs_of m) m (codecs.message m written).0 (codecs.message m written).1 written refl);
      }

  -- what an end wrote of a recovery
  module _ (again : WrittenIsRead) (room : WrittenHasRoom) where
    pub recovery_read : (named number nr : ℕ) (m : Message) (bytes : List ℕ) (secret : Option (List ℕ)) (h : Header) → named < 65536
        → nr < 65536 → IsKnownTo m Queries
        → IsWritten m → bytes ≡ control_bytes named 0 (on_wire number) nr (spelling (pairs_of m)) → header_of (uncovered_datagram secret bytes) ≡ Ok h
        → (h.tunnel ≡ named) × (message_in (body_of (uncovered_datagram secret bytes) h) ≡ Ok m)
    recovery_read named number nr m bytes secret h t n known written are e =
        let both = again Queries m known written in
        let pairs = spelling (pairs_of m) in
        let few = room m written in
        let stays = ap (uncovered_datagram secret) are
        ∙ stays_plain codecs secret named 0 (on_wire number) nr pairs (pairs_of m) t (omega arith) (on_wire_fits number) n few both.0 (hides_nothing m) in
        let r = control_read named 0 (on_wire number) nr pairs (uncovered_datagram secret bytes) h t (omega arith) (on_wire_fits number) n few stays e in
        (r.tunnel_is, rw r.body (message_there pairs (pairs_of m) m both.0 both.1))

    pub said_recovery : (w : World) (k : History) (p : Packet) (own named number nr : ℕ) (m : Message) (secret : Option (List ℕ)) (h : Header) → named < 65536 → nr < 65536
        → SaysRecovery w k p own named m → IsWritten m → p.bytes ≡ control_bytes named 0 (on_wire number) nr (spelling (pairs_of m))
        → header_of (uncovered_datagram secret p.bytes) ≡ Ok h
        → (h.tunnel ≡ named) × (message_in (body_of (uncovered_datagram secret p.bytes) h) ≡ Ok m)
    said_recovery w k p own named number nr m secret h t n says written are e =
        recovery_read named number nr m p.bytes secret h t n (known_of w k p own named m says) written are e

    -- an acknowledgement alone
    pub none_read : (named number nr : ℕ) (bytes : List ℕ) (secret : Option (List ℕ)) (h : Header) → named < 65536 → nr < 65536
        → bytes ≡ control_bytes named 0 (on_wire number) nr [] → header_of (uncovered_datagram secret bytes) ≡ Ok h
        → (h.tunnel ≡ named) × (body_of (uncovered_datagram secret bytes) h ≡ [])
    none_read named number nr bytes secret h t n are e =
        let stays = ap (uncovered_datagram secret) are
        ∙ stays_plain codecs secret named 0 (on_wire number) nr [] [] t (omega arith) (on_wire_fits number) n (omega arith) (codecs.pairs [] tt) refl in
        let r = control_read named 0 (on_wire number) nr [] (uncovered_datagram secret bytes) h t (omega arith) (omega arith) n (omega arith) stays e in
        (r.tunnel_is, r.body)
