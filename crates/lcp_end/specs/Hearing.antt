-- What a packet that came is to the automaton (RFC 1661 sections 4.3 and 5).
use Rattle.std.specs.Prelude.{ℕ, Bool, ◌==◌, ◌&&◌, ◌||◌, not, ◌≤◌, nat_le, if◌then◌else◌, List, [], ◌++◌, length, slice_index_or, take, drop, Option, Some, None, unwrap_or}
use Rattle.std.specs.Result.{result_ok}
use Rattle.byteorder.specs.Endian.{big_number}
use Rattle.wire_base.specs.Numbers.{u32_bytes}
use Rattle.lcp_wire.specs.declared.packet.Lcp.{Lcp}
use Rattle.lcp_wire.specs.declared.packet.LcpOption.{LcpOption}
use Rattle.lcp_wire.specs.Spelling.{packet_bytes}
use Rattle.lcp_wire.specs.Reading.{options_of}
use Rattle.lcp_end.specs.declared.table.LcpEvent.{LcpEvent}
use Rattle.lcp_end.specs.declared.table.LcpEvent.TheVariants.{RcrGood, RcrBad, Rca, Rcn, Rtr, Rta, Ruc, RxjGood, RxjBad, Rxr}
use Rattle.lcp_end.specs.declared.options.Verdict.{Verdict}
use Rattle.lcp_end.specs.declared.options.Verdict.TheVariants.{Ack, Nak, RejectBad, RejectUnknown}
use Rattle.lcp_end.specs.declared.state.EndState.{EndState}
use Rattle.lcp_end.specs.declared.hearing.Heard.{Heard}
use Rattle.lcp_end.specs.Options.{verdict_on, code_of, answer_body, wish_of, drawn_from, has_kind}

-- the magic number in use, 0 where there is none
abbrev pub own_magic : EndState → ℕ
own_magic k = unwrap_or k.magic 0

abbrev pub packet : ℕ → ℕ → List ℕ → Lcp
packet code id body = record { code = code; id = id; body = body }

-- an event, and the packet that answers where the table has an answer to it
abbrev pub with_answer : EndState → LcpEvent → Lcp → Option Heard
with_answer k event answer = Some (record { kept = k; event = event; answer = answer })

-- only a Terminate-Ack answers it, with its own identifier
abbrev pub plain : EndState → LcpEvent → ℕ → Option Heard
plain k event id = with_answer k event (packet 6 id [])

-- ---- a Configure-Request; a packet whose options can't be read is ignored

abbrev pub event_of : Verdict → LcpEvent
event_of Ack = RcrGood
event_of Nak = RcrBad
event_of RejectBad = RcrBad
event_of RejectUnknown = RcrBad

abbrev pub answer_by : Verdict → List ℕ → EndState → ℕ → List LcpOption → Option Heard
answer_by v block k id options =
    with_answer k (event_of v) (packet (code_of v) id (answer_body v (own_magic k) (wish_of block) options))

unfoldable pub request_heard : List ℕ → EndState → ℕ → Option (List LcpOption) → Option Heard
request_heard block k id (Some options) = answer_by (verdict_on (own_magic k) k.naks options) block k id options
request_heard block k id None = None

-- ---- answers to this end's own requests

unfoldable pub ack_heard : EndState → ℕ → Option (List LcpOption) → Option Heard
ack_heard k id (Some options) = plain k Rca id
ack_heard k id None = None

-- an option is asked for no more
abbrev pub without_mru : List LcpOption → EndState → EndState
without_mru options k = record k { asks_mru = k.asks_mru && not (has_kind 1 options) }

abbrev pub without_magic : List LcpOption → EndState → EndState
without_magic options k = if has_kind 5 options then record k { magic = None } else k

-- another magic number is asked for
abbrev pub drawn_anew : List ℕ → Option ℕ → Option ℕ
drawn_anew block (Some magic) = Some (drawn_from block)
drawn_anew block None = None

abbrev pub with_magic_anew : List ℕ → List LcpOption → EndState → EndState
with_magic_anew block options k = if has_kind 5 options then record k { magic = drawn_anew block k.magic } else k

unfoldable pub nak_heard : List ℕ → EndState → ℕ → Option (List LcpOption) → Option Heard
nak_heard block k id (Some options) = plain (with_magic_anew block options (without_mru options k)) Rcn id
nak_heard block k id None = None

unfoldable pub reject_heard : EndState → ℕ → Option (List LcpOption) → Option Heard
reject_heard k id (Some options) = plain (without_magic options (without_mru options k)) Rcn id
reject_heard k id None = None

-- ---- rejects of codes and protocols

-- the link can't do without the codes from 1 to 7
abbrev pub is_needed_code : List ℕ → Bool
is_needed_code body = nat_le 1 (slice_index_or body 0 0) && nat_le (slice_index_or body 0 0) 7

-- nor without LCP
abbrev pub is_lcp : List ℕ → Bool
is_lcp body = nat_le 2 (length body) && big_number 2 body == 0xc021

abbrev pub reject_event : Bool → LcpEvent
reject_event b = if b then RxjBad else RxjGood

-- ---- all packets

-- the answer to an Echo-Request: the own magic number in place of the sender's, and what followed that
abbrev pub echo_body : EndState → List ℕ → List ℕ
echo_body k body = u32_bytes (own_magic k) ++ drop 4 body

-- of a packet with an unknown code as much is sent back as fits into an MRU of 1,492 bytes
abbrev pub rejected : Lcp → List ℕ
rejected p = take 1488 (packet_bytes p)

abbrev pub unknown_heard : EndState → Lcp → Option Heard
unknown_heard k p = with_answer k Ruc (packet 7 p.id (rejected p))

-- an Ack, a Nak, a Reject, or a Terminate-Ack
unfoldable pub answer_heard : List ℕ → EndState → Lcp → Option Heard
answer_heard block k p =
    if p.code == 2 then ack_heard k p.id (result_ok (options_of p.body))
    else if p.code == 3 then nak_heard block k p.id (result_ok (options_of p.body))
    else if p.code == 4 then reject_heard k p.id (result_ok (options_of p.body))
    else plain k Rta p.id

-- it has the identifier of the last request of this end's, or is ignored
unfoldable pub answers_last : EndState → ℕ → Option Heard → Option Heard
answers_last k id heard = if id == k.request then heard else None

abbrev pub is_answer : ℕ → Bool
is_answer code = code == 2 || code == 3 || code == 4 || code == 6

-- what is ignored is nothing to the automaton; an Echo-Reply and a Discard-Request are
unfoldable pub heard_as : List ℕ → EndState → Lcp → Option Heard
heard_as block k p =
    if is_answer p.code then answers_last k p.id (answer_heard block k p)
    else if p.code == 1 then request_heard block k p.id (result_ok (options_of p.body))
    else if p.code == 5 then plain k Rtr p.id
    else if p.code == 7 then plain k (reject_event (is_needed_code p.body)) p.id
    else if p.code == 8 then plain k (reject_event (is_lcp p.body)) p.id
    else if p.code == 9 then with_answer k Rxr (packet 10 p.id (echo_body k p.body))
    else if p.code == 10 || p.code == 11 then None
    else unknown_heard k p

-- the answer can be written
abbrev pub IsShort : Heard → Type 0
IsShort h = length h.answer.body ≤ 65531
