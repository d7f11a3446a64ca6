-- What is sent, whatever secret it is read with: a copy of a letter is read as the letter, and frames and what says nothing as they are.
use Rattle.std.proofs.Common.{◌≡◌, ℕ, ◌<◌, ◌≤◌, List, [], length, refl, ap, ◌∙◌, Option, arith}
use Rattle.l2tp_header.specs.Spelling.{control_bytes}
use Rattle.recv_window.specs.Window.{on_wire}
use Rattle.end_model.specs.Secrets.{uncovered_datagram}
use Rattle.step_laws.specs.Letters.{Letter}
use Rattle.frame_laws.specs.Codecs.{Codecs}
use Rattle.frame_laws.specs.Plain.{IsReadAs, stays_plain, letter_uncovered, frame_stays}
use Rattle.connection_laws.specs.Facts.{IsSpelled, kept_letter, IsData}

pub on_wire_fits : (n : ℕ) → on_wire n < 65536
on_wire_fits n = omega arith

-- the pairs as which a letter is read
pub record LetterRead (secret : Option (List ℕ)) (l : Letter) (tunnel ns nr : ℕ) (bytes : List ℕ) : Type 0 where
  pub body : List ℕ
  pub few : length body ≤ 65523
  pub is : uncovered_datagram secret bytes ≡ control_bytes tunnel l.session (on_wire ns) (on_wire nr) body
  pub reads : IsReadAs l.message body

module _ (codecs : Codecs) (secret : Option (List ℕ)) where
  pub letter_read : (l : Letter) (tunnel ns nr : ℕ) (bytes : List ℕ) → tunnel < 65536 → IsSpelled l
      → bytes ≡ control_bytes tunnel l.session (on_wire ns) (on_wire nr) (kept_letter l).avps → LetterRead secret l tunnel ns nr bytes
  letter_read l tunnel ns nr bytes fits s are =
      let u = letter_uncovered codecs secret tunnel l.session (on_wire ns) (on_wire nr) l.message l.hidden fits s.session (on_wire_fits ns) (on_wire_fits nr) s.written s.hides in
      record { body = u.body; few = u.few; is = ap (uncovered_datagram secret) are ∙ u.is; reads = u.reads }

  pub nothing_read : (tunnel ns nr : ℕ) (bytes : List ℕ) → tunnel < 65536 → bytes ≡ control_bytes tunnel 0 (on_wire ns) (on_wire nr) []
      → uncovered_datagram secret bytes ≡ control_bytes tunnel 0 (on_wire ns) (on_wire nr) []
  nothing_read tunnel ns nr bytes fits are =
      ap (uncovered_datagram secret) are
      ∙ stays_plain codecs secret tunnel 0 (on_wire ns) (on_wire nr) [] [] fits (omega arith) (on_wire_fits ns) (on_wire_fits nr) (omega arith) (codecs.pairs [] tt) refl

  pub data_plain : (bytes : List ℕ) → IsData bytes → uncovered_datagram secret bytes ≡ bytes
  data_plain bytes d = rw d.are (frame_stays codecs secret d.tunnel d.session d.number d.frame d.tunnel_fits d.session_fits d.number_fits)
