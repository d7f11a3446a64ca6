-- What was written is read again, as the codecs' laws say it, with the length of what is written.
use Rattle.std.specs.Prelude.{◌≡◌, ℕ, ◌+◌, ◌^◌, ◌<◌, ◌≤◌, List, length, Option, Ok}
use Rattle.l2tp_header.specs.Grammar.{FitsWord}
use Rattle.l2tp_header.specs.Again.{Carries, control_header, data_header}
use Rattle.l2tp_header.specs.Spelling.{control_bytes, data_bytes, hdlc_bytes}
use Rattle.avp_codec.specs.Spelling.{spelling, AreAvps}
use Rattle.avp_codec.specs.declared.avp.Avp.{Avp}
use Rattle.avp_codec.specs.Reading.{avps_of}
use Rattle.control_message.specs.declared.message.Message.{Message}
use Rattle.control_message.specs.declared.message.Read.TheVariants.{Known}
use Rattle.control_message.specs.HiddenRequests.{HiddenRequestsAreRead}
use Rattle.control_message.specs.Pairs.{pairs_of}
use Rattle.control_message.specs.Pairs as codec
use Rattle.end_model.specs.Reading.{message_said}
use Rattle.end_names.specs.Names.{calling_number}
use Rattle.frame_laws.specs.Written.{IsWritten}

-- what the codecs promise of what they write
pub record Codecs : Type 0 where
  pub control : (tunnel session ns nr : ℕ) (avps : List ℕ) → tunnel < 2 ^ 16 → session < 2 ^ 16 → ns < 2 ^ 16 → nr < 2 ^ 16 → length avps ≤ 65523
      → Carries (control_bytes tunnel session ns nr avps) (control_header tunnel session ns nr (length avps)) avps
  pub frame : (tunnel session : ℕ) (number : Option ℕ) (frame : List ℕ) → tunnel < 2 ^ 16 → session < 2 ^ 16 → FitsWord number
      → Carries (data_bytes tunnel session number frame) (data_header tunnel session number (2 + length frame)) (hdlc_bytes frame)
  pub message : (m : Message) → IsWritten m
      → (avps_of (spelling (pairs_of m)) ≡ Ok (pairs_of m)) × (message_said (pairs_of m) ≡ Ok (Known m))
  -- so are those that tell of a recovery, and the queries of sessions
  pub whole : (m : Message) → codec.IsWritten m
      → (avps_of (spelling (pairs_of m)) ≡ Ok (pairs_of m)) × (message_said (pairs_of m) ≡ Ok (Known m))
  pub whole_room : (m : Message) → codec.IsWritten m → length (spelling (pairs_of m)) ≤ 65523
  pub pairs : (v : List Avp) → AreAvps v → avps_of (spelling v) ≡ Ok v
  pub room : (m : Message) → IsWritten m → length (spelling (pairs_of m)) ≤ 65523
  pub hidden : HiddenRequestsAreRead
  pub digits : (who : List ℕ) → length (calling_number who) ≡ 12
