-- What holds of every step of an end, and of every run of its calls.
use Rattle.std.specs.Prelude.{◌≡◌, ◌≢◌, ℕ, ◌+◌, ◌%◌, ◌^◌, Bool, false, true, ◌==◌, ◌&&◌, ◌||◌, not, IsTrue, if◌then◌else◌, List, [], ◌∷◌, ◌++◌, slice_index_or, filter, Ok, ◌<◌}
use Rattle.std.specs.List.{flat_map}
use Rattle.std.specs.Bool.{OnTrue}
use Rattle.lcp_wire.specs.declared.packet.Lcp.{Lcp}
use Rattle.wire_base.specs.Numbers.{u16_bytes, u32_bytes}
use Rattle.lcp_wire.specs.declared.packet.LcpOption.{LcpOption}
use Rattle.lcp_wire.specs.Spelling.{spelling}
use Rattle.lcp_wire.specs.Reading.{packet_of}
use Rattle.lcp_end.specs.declared.state.EndState.{EndState}
use Rattle.lcp_end.specs.declared.options.Verdict.TheVariants.{Ack, Nak, RejectBad, RejectUnknown}
use Rattle.lcp_end.specs.Options.{is_known, is_good, suggested, answer_body}
use Rattle.lcp_end.specs.Hearing.{is_answer}
use Rattle.lcp_end.specs.Steps.{Turn, is_opened, begun, fresh, opened, closed, ticked, after_packet}

-- ---- calls

pub data Call : Type 0 where
  -- at a moment
  OpenLink : ℕ → Call
  CloseLink : ℕ → Call
  OnTick : ℕ → Call
  -- a packet and a random block, at a moment
  OnPacket : List ℕ → List ℕ → ℕ → Call

abbrev pub after : Call → EndState → Turn
after (OpenLink moment) k = opened moment k
after (CloseLink moment) k = closed moment k
after (OnTick moment) k = ticked moment k
after (OnPacket bytes block moment) k = after_packet bytes block moment k

-- the packets that the calls give, in order
abbrev pub given : List Call → EndState → List (List ℕ)
given [] k = []
given (c ∷ cs) k = (after c k).out.packets ++ given cs (after c k).kept

-- ---- open, up and down

-- the link is open where it came up, or was open and didn't go down; it comes up only where it wasn't open, and goes
-- down only where it was
pub record TellsOpen (k : EndState) (t : Turn) : Type 0 where
  pub opened : is_opened t.kept ≡ (t.out.up || (is_opened k && not t.out.down))
  pub up : IsTrue t.out.up → is_opened k ≡ false
  pub down : IsTrue t.out.down → is_opened k ≡ true

abbrev pub EachTellsOpen : Type 0
EachTellsOpen = (c : Call) (k : EndState) → TellsOpen k (after c k)

-- ---- answers to other requests

-- an Ack, a Nak, a Reject or a Terminate-Ack whose identifier isn't that of the last request changes nothing
abbrev pub IgnoresOthers : Type 0
IgnoresOthers =
    (bytes block : List ℕ) (moment : ℕ) (k : EndState) (p : Lcp) →
    packet_of bytes ≡ Ok p → IsTrue (is_answer p.code) → p.id ≢ k.request → after_packet bytes block moment k ≡ begun k

-- ---- answers to a Configure-Request

-- an Ack has all of its options, a Reject the ones that are refused, as they came, and a Nak a suggestion for each that
-- isn't fine
pub record AnswersOptions (own wish : ℕ) (options : List LcpOption) : Type 0 where
  pub ack : answer_body Ack own wish options ≡ spelling options
  pub unknown : answer_body RejectUnknown own wish options ≡ spelling (filter (λ o. not (is_known o)) options)
  pub bad : answer_body RejectBad own wish options ≡ spelling (filter (λ o. not (is_good own o)) options)
  pub nak : answer_body Nak own wish options ≡ flat_map (λ o. suggested wish o.kind) (filter (λ o. not (is_good own o)) options)

abbrev pub EachAnswersOptions : Type 0
EachAnswersOptions = (own wish : ℕ) (options : List LcpOption) → AnswersOptions own wish options

-- what a Nak suggests is fine, where the random number that it suggests is neither 0 nor the end's own
pub record SuggestsGood (own wish : ℕ) : Type 0 where
  pub mru : is_good own (record { kind = 1; value = u16_bytes 1492 }) ≡ true
  pub magic : is_good own (record { kind = 5; value = u32_bytes wish }) ≡ true

abbrev pub EachSuggestsGood : Type 0
EachSuggestsGood = (own wish : ℕ) → wish < 2 ^ 32 → wish ≢ 0 → wish ≢ own → SuggestsGood own wish

-- ---- identifiers

abbrev pub code_in : List ℕ → ℕ
code_in bytes = slice_index_or bytes 0 0

abbrev pub id_in : List ℕ → ℕ
id_in bytes = slice_index_or bytes 1 0

-- an end begins Configure-Requests, Terminate-Requests and Code-Rejects; its other packets are answers
abbrev pub is_begun : ℕ → Bool
is_begun code = code == 1 || code == 5 || code == 7

abbrev pub id_after : ℕ → List ℕ → ℕ
id_after last bytes = if is_begun (code_in bytes) then (last + 1) % 2 ^ 8 else last

abbrev pub last_id_after : ℕ → List (List ℕ) → ℕ
last_id_after last [] = last
last_id_after last (p ∷ ps) = last_id_after (id_after last p) ps

-- each packet that is begun has the next identifier
abbrev pub AreCounted : ℕ → List (List ℕ) → Type 0
AreCounted last [] = Unit {0}
AreCounted last (p ∷ ps) = OnTrue (is_begun (code_in p)) (id_in p ≡ (last + 1) % 2 ^ 8) × AreCounted (id_after last p) ps

-- in every run the packets that an end begins, repeated ones too, have the identifiers from 1 on, modulo 256
abbrev pub CountsIds : Type 0
CountsIds = (magic : ℕ) (calls : List Call) → AreCounted 0 (given calls (fresh magic))
