-- Which tunnel the header of a control message names that a tunnel sent.
use Rattle.std.proofs.Common.{◌≡◌, ℕ, zero, suc, ◌<◌, ◌≤◌, List, [], ◌∷◌, length, refl, ap, ◌∙◌, subst, ⊎_elim, Option, Some, Ok, arith}
use Rattle.std.specs.Prelude.{slice_get}
use Rattle.std.specs.List.{AllByRecursion}
use Rattle.l2tp_header.specs.declared.header.Header.{Header}
use Rattle.l2tp_header.specs.Again.{Carries, control_header}
use Rattle.l2tp_header.specs.Spelling.{control_bytes}
use Rattle.l2tp_header.specs.Reading.{header_of}
use Rattle.recv_window.specs.Window.{on_wire}
use Rattle.end_model.specs.declared.out.ControlOrigin.{ControlOrigin}
use Rattle.world_model.specs.declared.packet.Packet.{Packet}
use Rattle.end_model.specs.Secrets.{uncovered_datagram}
use Rattle.frame_laws.specs.Codecs.{Codecs}
use Rattle.frame_laws.specs.Plain.{stays_plain}
use Rattle.channel_laws.specs.Recoveries.{WrittenIsRead, WrittenHasRoom}
use Rattle.channel_laws.proofs.Spelled.{letter_read}
use Rattle.channel_laws.specs.Accounts.{Account}
use Rattle.channel_laws.specs.Facts.{Says, ALetter, Nothing, IsCopy, IsSpelledIn}

pub all_at : {X : Type 0} (P : X → Type 0) (xs : List X) (k : ℕ) (x : X) → slice_get xs k ≡ Some x → AllByRecursion P xs → P x
all_at P [] k x is h = absurd (cc)
all_at P (y ∷ xs) zero x is h = let e : y ≡ x = cc in subst P e h.0
all_at P (y ∷ xs) (suc k) x is h = all_at P xs k x is h.1

on_wire_fits : (n : ℕ) → on_wire n < 65536
on_wire_fits n = omega arith

module _ (codecs : Codecs) (again : WrittenIsRead) (room : WrittenHasRoom) where
  same_header : (bytes : List ℕ) (h k : Header) (body : List ℕ) → Carries bytes k body → header_of bytes ≡ Ok h → h ≡ k
  same_header bytes h k body c e = let r = c.reads in cc

  tunnel_read : (tunnel session ns nr : ℕ) (pairs : List ℕ) (h : Header) → tunnel < 65536 → session < 65536 → length pairs ≤ 65523
      → header_of (control_bytes tunnel session (on_wire ns) (on_wire nr) pairs) ≡ Ok h → h.tunnel ≡ tunnel
  tunnel_read tunnel session ns nr pairs h t s le e =
      let bytes = control_bytes tunnel session (on_wire ns) (on_wire nr) pairs in
      let c = codecs.control tunnel session (on_wire ns) (on_wire nr) pairs t s (omega arith) (omega arith) le in
      ap (λ (x : Header). x.tunnel) (same_header bytes h (control_header tunnel session (on_wire ns) (on_wire nr) (length pairs)) pairs c e)

  -- what is said names the tunnel, with whatever secret it is read
  said_tunnel : (a : Account) (e : ℕ) (o : ControlOrigin) (tunnel : ℕ) → tunnel < 65536 → AllByRecursion (IsSpelledIn e) a.given
      → (secret : Option (List ℕ)) (bytes : List ℕ)
      → Says a o tunnel bytes → (h : Header) → header_of (uncovered_datagram secret bytes) ≡ Ok h → h.tunnel ≡ tunnel
  said_tunnel a e o tunnel lt spelled secret bytes (ALetter l place full at_place there are) h read =
      let s = all_at (IsSpelledIn e) a.given place l there spelled in
      let u = letter_read codecs again room secret e l tunnel o.ns o.nr bytes lt are s in
      tunnel_read tunnel l.session o.ns o.nr u.body h lt u.session u.few (let is = u.is in rw is at read)
  said_tunnel a e o tunnel lt spelled secret bytes (Nothing empty are) h read =
      let is : uncovered_datagram secret bytes ≡ control_bytes tunnel 0 (on_wire o.ns) (on_wire o.nr) [] =
      ap (uncovered_datagram secret) are
      ∙ stays_plain codecs secret tunnel 0 (on_wire o.ns) (on_wire o.nr) [] [] lt (omega arith) (on_wire_fits o.ns) (on_wire_fits o.nr) (omega arith) (codecs.pairs [] tt) refl in
      tunnel_read tunnel 0 o.ns o.nr [] h lt (omega arith) (omega arith) (rw is at read)

  named_fits : (a : Account) (p : Packet) (o : ControlOrigin) → a.remote < 65536 → (c : IsCopy a p o) → c.tunnel < 65536
  named_fits a p o fits c = ⊎_elim (λ k. let z = k.0 in omega arith) (λ k. let z = k.1 in omega arith) c.named

  -- of a copy that a tunnel sent
  pub copy_tells : (a : Account) (e : ℕ) (p : Packet) (o : ControlOrigin) → a.remote < 65536 → AllByRecursion (IsSpelledIn e) a.given
      → (c : IsCopy a p o)
      → (secret : Option (List ℕ)) (h : Header) → header_of (uncovered_datagram secret p.bytes) ≡ Ok h → h.tunnel ≡ c.tunnel
  copy_tells a e p o fits spelled c secret h read = said_tunnel a e o c.tunnel (named_fits a p o fits c) spelled secret p.bytes c.says h
      read
