-- What the header of a control message tells that an end sent.
use Rattle.std.proofs.Common.{◌≡◌, ℕ, ◌<◌, ◌≤◌, true, List, [], length, refl, Option, Some, Ok, arith}
use Rattle.std.specs.List.{AllByRecursion}
use Rattle.l2tp_header.specs.declared.header.Header.{Header}
use Rattle.l2tp_header.specs.Again.{control_header}
use Rattle.l2tp_header.specs.Spelling.{control_bytes}
use Rattle.l2tp_header.specs.Reading.{header_of, body_of}
use Rattle.recv_window.specs.Window.{on_wire}
use Rattle.end_model.specs.declared.out.ControlOrigin.{ControlOrigin}
use Rattle.world_model.specs.declared.packet.Packet.{Packet}
use Rattle.end_model.specs.Secrets.{uncovered_datagram}
use Rattle.frame_laws.specs.Codecs.{Codecs}
use Rattle.connection_laws.specs.Accounts.{Account}
use Rattle.connection_laws.specs.Facts.{Accounts, IsSpelled, AccountOk, Says, ALetter, Nothing, IsCopy}
use Rattle.connection_laws.proofs.Plain.{letter_read, nothing_read}
use Rattle.connection_laws.proofs.Refusals.{same_header}
use Rattle.connection_laws.proofs.Hearing.{all_at}
use Rattle.connection_laws.proofs.Hearing.{named_fits as named_so}

-- what the header of a control message tells
pub record HeaderTells (o : ControlOrigin) (tunnel : ℕ) (h : Header) : Type 0 where
  pub control : h.control ≡ true
  pub tunnel_is : h.tunnel ≡ tunnel
  pub ns : h.ns ≡ Some (on_wire o.ns)
  pub nr : h.nr ≡ Some (on_wire o.nr)

module _ (codecs : Codecs) where
  record ControlRead (tunnel session ns nr : ℕ) (pairs bytes : List ℕ) (h : Header) : Type 0 where
    pub control : h.control ≡ true
    pub tunnel_is : h.tunnel ≡ tunnel
    pub session_is : h.session ≡ session
    pub ns_is : h.ns ≡ Some (on_wire ns)
    pub nr_is : h.nr ≡ Some (on_wire nr)
    pub body : body_of bytes h ≡ pairs

  control_read : (tunnel session ns nr : ℕ) (pairs : List ℕ) (h : Header) → tunnel < 65536 → session < 65536 → length pairs ≤ 65523
      → header_of (control_bytes tunnel session (on_wire ns) (on_wire nr) pairs) ≡ Ok h
      → ControlRead tunnel session ns nr pairs (control_bytes tunnel session (on_wire ns) (on_wire nr) pairs) h
  control_read tunnel session ns nr pairs h t s le e =
      let bytes = control_bytes tunnel session (on_wire ns) (on_wire nr) pairs in
      let c = codecs.control tunnel session (on_wire ns) (on_wire nr) pairs t s (omega arith) (omega arith) le in
      let same = same_header codecs bytes h (control_header tunnel session (on_wire ns) (on_wire nr) (length pairs)) pairs c e in
      rw same (record { control = refl; tunnel_is = refl; session_is = refl; ns_is = refl; nr_is = refl; body = c.bounds })

  -- what is said is read, with whatever secret
  module _ (a : Account) (o : ControlOrigin) (tunnel : ℕ) (lt : tunnel < 65536) (spelled : AllByRecursion IsSpelled a.given) (secret : Option (List ℕ)) where
    pub header_tells : (bytes : List ℕ) → Says a o tunnel bytes → (h : Header) → header_of (uncovered_datagram secret bytes) ≡ Ok h → HeaderTells o tunnel h
    header_tells bytes (ALetter l full there are) h read =
        let sp = all_at IsSpelled a.given o.ns l there spelled in
        let u = letter_read codecs secret l tunnel o.ns o.nr bytes lt sp are in
        let k = control_read tunnel l.session o.ns o.nr u.body h lt sp.session u.few (rw u.is at read) in
        record { control = k.control; tunnel_is = k.tunnel_is; ns = k.ns_is; nr = k.nr_is }
    header_tells bytes (Nothing empty are) h read =
        let is = nothing_read codecs secret tunnel o.ns o.nr bytes lt are in
        let k = control_read tunnel 0 o.ns o.nr [] h lt (omega arith) (omega arith) (rw is at read) in
        record { control = k.control; tunnel_is = k.tunnel_is; ns = k.ns_is; nr = k.nr_is }

  -- the tunnel that a message names has 16 bits
  named_fits : (accs : Accounts) (n i : ℕ) (a : Account) (p : Packet) (o : ControlOrigin) → AccountOk accs n i a → (c : IsCopy a p o) → c.tunnel < 65536
  named_fits accs n i a p o ok c = named_so a o c.tunnel ok.remote c.named

  -- of a copy that a tunnel sent
  pub copy_tells : (accs : Accounts) (n i : ℕ) (a : Account) (p : Packet) (o : ControlOrigin) → AccountOk accs n i a → (c : IsCopy a p o)
      → (secret : Option (List ℕ)) (h : Header) → header_of (uncovered_datagram secret p.bytes) ≡ Ok h → HeaderTells o c.tunnel h
  copy_tells accs n i a p o ok c secret h read = header_tells a o c.tunnel (named_fits accs n i a p o ok c) ok.spelled secret p.bytes c.says h read
