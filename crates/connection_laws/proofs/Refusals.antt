-- What a StopCCN of no tunnel tells that declines an opening.
use Rattle.std.proofs.Common.{◌≡◌, ℕ, ◌<◌, true, List, length, refl, sym, ap, ◌∙◌, subst, Option, Ok, arith}
use Rattle.std.specs.Prelude.{unwrap_or}
use Rattle.l2tp_header.specs.declared.header.Header.{Header}
use Rattle.l2tp_header.specs.Again.{Carries, control_header}
use Rattle.l2tp_header.specs.Spelling.{control_bytes}
use Rattle.l2tp_header.specs.Reading.{header_of, body_of}
use Rattle.avp_codec.specs.Spelling.{spelling}
use Rattle.control_message.specs.declared.message.Message.{Message}
use Rattle.control_message.specs.declared.message.Message.TheVariants.{StopCcn}
use Rattle.control_message.specs.Pairs.{pairs_of}
use Rattle.recv_window.specs.Window.{on_wire}
use Rattle.end_model.specs.declared.out.ControlOrigin.{ControlOrigin}
use Rattle.world_model.specs.declared.packet.Packet.{Packet}
use Rattle.end_model.specs.Reading.{message_in, pairs_read, message_read}
use Rattle.end_model.specs.Secrets.{uncovered_datagram}
use Rattle.frame_laws.specs.Codecs.{Codecs}
use Rattle.frame_laws.specs.Plain.{IsReadAs, AsAMessage, letter_stays}
use Rattle.frame_laws.specs.Written.{IsWritten}
use Rattle.connection_laws.specs.Facts.{Accounts, AccountOk, IsRefusal}
use Rattle.connection_laws.proofs.Later.{opener_made}

-- the tunnel that it names has an id
pub refusal_some : (accs : Accounts) → ((m j : ℕ) → AccountOk accs m j (accs m j)) → (p : Packet) (o : ControlOrigin) → (r : IsRefusal accs p o)
    → 0 < r.tunnel
refusal_some accs all p o r = (all p.to r.tunnel).some (opener_made (accs p.to r.tunnel) r.opener)

-- what its header and its body say
pub record RefusalRead (tunnel : ℕ) (o : ControlOrigin) (h : Header) (bytes : List ℕ) : Type 0 where
  pub control : h.control ≡ true
  pub tunnel_is : h.tunnel ≡ tunnel
  pub ns : unwrap_or h.ns 0 ≡ on_wire o.ns
  pub nr : unwrap_or h.nr 0 ≡ on_wire o.nr
  pub result : ℕ
  pub error : Option ℕ
  pub said : message_in (body_of bytes h) ≡ Ok (StopCcn 0 result error)
  pub reads : IsReadAs (StopCcn 0 result error) (body_of bytes h)
  pub written : IsWritten (StopCcn 0 result error)

module _ (codecs : Codecs) where
  -- the message that was written
  pub message_again : (m : Message) → IsWritten m → message_in (spelling (pairs_of m)) ≡ Ok m
  unfolding message_in pairs_read message_read
  message_again m w = let both = codecs.message m w in rw (both.0, both.1) refl

  pub same_header : (bytes : List ℕ) (h k : Header) (body : List ℕ) → Carries bytes k body → header_of bytes ≡ Ok h → h ≡ k
  same_header bytes h k body c e = let r = c.reads in cc

  -- whatever secret it is read with
  pub refusal_plain : (accs : Accounts) → ((m j : ℕ) → AccountOk accs m j (accs m j)) → (p : Packet) (o : ControlOrigin) → (r : IsRefusal accs p o)
      → (secret : Option (List ℕ)) → uncovered_datagram secret p.bytes ≡ p.bytes
  refusal_plain accs all p o r secret =
      let fits = (all p.to r.tunnel).id (opener_made (accs p.to r.tunnel) r.opener) in
      rw r.are (letter_stays codecs secret r.tunnel 0 0 1 (StopCcn 0 r.result r.error) fits (omega arith) (omega arith) (omega arith) (omega arith, r.fit.0, r.fit.1))

  read_as_written : (accs : Accounts) → ((m j : ℕ) → AccountOk accs m j (accs m j)) → (p : Packet) (o : ControlOrigin) → (r : IsRefusal accs p o)
      → (h : Header) → header_of p.bytes ≡ Ok h → RefusalRead r.tunnel o h p.bytes
  read_as_written accs all p o r h e =
      let fits = (all p.to r.tunnel).id (opener_made (accs p.to r.tunnel) r.opener) in
      let m = StopCcn 0 r.result r.error in
      let written : IsWritten m = (omega arith, r.fit.0, r.fit.1) in
      let pairs = spelling (pairs_of m) in
      let made = control_bytes r.tunnel 0 0 1 pairs in
      let k = control_header r.tunnel 0 0 1 (length pairs) in
      let c = codecs.control r.tunnel 0 0 1 pairs fits (omega arith) (omega arith) (omega arith) (codecs.room m written) in
      let same : h ≡ k = same_header made h k pairs c (rw r.are at e) in
      rw (same, r.are) (record {
        control = refl;
        tunnel_is = refl;
        ns = rw r.ns refl;
        nr = rw r.nr refl;
        result = r.result;
        error = r.error;
        said = rw c.bounds (message_again m written);
        reads = rw c.bounds (AsAMessage (pairs_of m) m (codecs.message m written).0 (codecs.message m written).1 written refl);
        written = written;
      })

  pub refusal_read : (accs : Accounts) → ((m j : ℕ) → AccountOk accs m j (accs m j)) → (p : Packet) (o : ControlOrigin) → (r : IsRefusal accs p o)
      → (secret : Option (List ℕ)) (h : Header) → header_of (uncovered_datagram secret p.bytes) ≡ Ok h
      → RefusalRead r.tunnel o h (uncovered_datagram secret p.bytes)
  refusal_read accs all p o r secret h e =
      let same = refusal_plain accs all p o r secret in
      subst (λ (bs : List ℕ). RefusalRead r.tunnel o h bs) (sym same) (read_as_written accs all p o r h (ap header_of (sym same) ∙ e))
