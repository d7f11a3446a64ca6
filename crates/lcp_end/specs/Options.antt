-- Which options are fine, what a Configure-Request draws, and what this end asks for (RFC 1661 sections 5 and 6).
use Rattle.std.specs.Prelude.{ℕ, Bool, true, false, ◌==◌, ◌&&◌, ◌||◌, not, nat_lt, nat_le, if◌then◌else◌, List, [], ◌++◌, length, drop, Option, Some, None, bit_xor}
use Rattle.std.specs.List.{list_any, list_all, flat_map}
use Rattle.byteorder.specs.Endian.{big_number}
use Rattle.wire_base.specs.Numbers.{u16_bytes, u32_bytes}
use Rattle.lcp_wire.specs.declared.packet.LcpOption.{LcpOption}
use Rattle.lcp_wire.specs.Spelling.{option_bytes, spelling_of}
use Rattle.lcp_end.specs.declared.options.Verdict.{Verdict}
use Rattle.lcp_end.specs.declared.options.Verdict.TheVariants.{Ack, Nak, RejectBad, RejectUnknown}

-- type 1 is the Maximum-Receive-Unit, type 5 the Magic-Number
abbrev pub is_known : LcpOption → Bool
is_known o = o.kind == 1 || o.kind == 5

-- from 64 to 1,492 bytes, the most that PPPoE carries (RFC 2516 section 7)
abbrev pub is_good_mru : List ℕ → Bool
is_good_mru value = length value == 2 && nat_le 64 (big_number 2 value) && nat_le (big_number 2 value) 1492

-- neither 0 nor this end's own
abbrev pub is_good_magic : ℕ → List ℕ → Bool
is_good_magic own value = length value == 4 && not (big_number 4 value == 0) && not (big_number 4 value == own)

-- a known option's value is fine
unfoldable pub is_good : ℕ → LcpOption → Bool
is_good own o = if o.kind == 1 then is_good_mru o.value else is_good_magic own o.value

-- options of other types are refused first; after five Naks a value that isn't fine is refused too
abbrev pub verdict_on : ℕ → ℕ → List LcpOption → Verdict
verdict_on own naks options =
    if list_all is_known options then (if list_all (is_good own) options then Ack else if nat_lt naks 5 then Nak else RejectBad)
    else RejectUnknown

-- ---- what is answered

abbrev pub code_of : Verdict → ℕ
code_of Ack = 2
code_of Nak = 3
code_of RejectBad = 4
code_of RejectUnknown = 4

abbrev pub is_left_out : Verdict → ℕ → LcpOption → Bool
is_left_out Ack own o = false
is_left_out Nak own o = is_good own o
is_left_out RejectBad own o = is_good own o
is_left_out RejectUnknown own o = is_known o

-- a known option with a value that would be fine
abbrev pub suggested : ℕ → ℕ → List ℕ
suggested wish kind = if kind == 1 then option_bytes 1 (u16_bytes 1492) else option_bytes 5 (u32_bytes wish)

abbrev pub answered_by : Verdict → ℕ → LcpOption → List ℕ
answered_by Ack wish o = spelling_of o
answered_by Nak wish o = suggested wish o.kind
answered_by RejectBad wish o = spelling_of o
answered_by RejectUnknown wish o = spelling_of o

-- what an option adds to the answer
unfoldable pub part : Verdict → ℕ → ℕ → LcpOption → List ℕ
part v own wish o = if is_left_out v own o then [] else answered_by v wish o

-- the options of the answer, in the order in which they came
abbrev pub answer_body : Verdict → ℕ → ℕ → List LcpOption → List ℕ
answer_body v own wish options = flat_map (part v own wish) options

-- ---- random numbers

-- the magic number that a Nak suggests: the first four bytes of the block and its last four, xored
abbrev pub wish_of : List ℕ → ℕ
wish_of block = bit_xor (big_number 4 block) (big_number 4 (drop 12 block))

-- an own magic number isn't 0
abbrev pub not_zero : ℕ → ℕ
not_zero n = if n == 0 then 1 else n

abbrev pub drawn_from : List ℕ → ℕ
drawn_from block = not_zero (big_number 4 (drop 12 block))

-- ---- what this end asks for

abbrev pub mru_part : Bool → List ℕ
mru_part true = option_bytes 1 (u16_bytes 1492)
mru_part false = []

abbrev pub magic_part : Option ℕ → List ℕ
magic_part (Some magic) = option_bytes 5 (u32_bytes magic)
magic_part None = []

unfoldable pub asked : Bool → Option ℕ → List ℕ
asked mru magic = mru_part mru ++ magic_part magic

abbrev pub has_kind : ℕ → List LcpOption → Bool
has_kind kind options = list_any (λ o. o.kind == kind) options
