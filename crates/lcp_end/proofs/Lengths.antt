-- How long the answer to a Configure-Request is.
use Rattle.std.proofs.Common.{◌≡◌, ℕ, ◌*◌, ◌≤◌, Bool, true, false, List, [], ◌∷◌, ◌++◌, length, if◌then◌else◌, ◌==◌, Option, Some, None, ap, arith, length-append}
use Rattle.std.specs.List.{flat_map}
use Rattle.wire_base.specs.Numbers.{u16_bytes, u32_bytes}
use Rattle.lcp_wire.specs.declared.packet.LcpOption.{LcpOption}
use Rattle.lcp_wire.specs.Spelling.{spelling_of, spelling}
use Rattle.lcp_end.specs.declared.options.Verdict.{Verdict}
use Rattle.lcp_end.specs.declared.options.Verdict.TheVariants.{Ack, Nak, RejectBad, RejectUnknown}
use Rattle.lcp_end.specs.Options.{is_left_out, answered_by, part, answer_body, mru_part, magic_part}

-- an answer with the option or a suggestion for it is at most three times as long
suggestion_is_short : (b : Bool) (wish : ℕ) (o : LcpOption) →
    length (if b then 1 ∷ 4 ∷ u16_bytes 1492 else (5 ∷ 6 ∷ u32_bytes wish)) ≤ 3 * length (spelling_of o)
unfolding u16_bytes u32_bytes
suggestion_is_short true wish o = omega arith
suggestion_is_short false wish o = omega arith

answer_is_short : (v : Verdict) (wish : ℕ) (o : LcpOption) → length (answered_by v wish o) ≤ 3 * length (spelling_of o)
unfolding u16_bytes u32_bytes
answer_is_short Ack wish o = omega arith
answer_is_short Nak wish o = suggestion_is_short (o.kind == 1) wish o
answer_is_short RejectBad wish o = omega arith
answer_is_short RejectUnknown wish o = omega arith

left_out_is_short : (b : Bool) (v : Verdict) (wish : ℕ) (o : LcpOption) → length (if b then [] else answered_by v wish o) ≤ 3 * length (spelling_of o)
left_out_is_short true v wish o = omega arith
left_out_is_short false v wish o = answer_is_short v wish o

part_is_short : (v : Verdict) (own wish : ℕ) (o : LcpOption) → length (part v own wish o) ≤ 3 * length (spelling_of o)
unfolding part
part_is_short v own wish o = left_out_is_short (is_left_out v own o) v wish o

pub body_is_short : (v : Verdict) (own wish : ℕ) (options : List LcpOption) → length (answer_body v own wish options) ≤ 3 * length (spelling options)
body_is_short v own wish [] = omega arith
body_is_short v own wish (o ∷ os) =
    let here = part_is_short v own wish o in
    let rest = body_is_short v own wish os in
    let both = length-append (part v own wish o) (flat_map (part v own wish) os) in
    let all = length-append (spelling_of o) (spelling os) in
    omega arith

pub asked_is_short : (mru : Bool) (magic : Option ℕ) → length (mru_part mru ++ magic_part magic) ≤ 10
unfolding u16_bytes u32_bytes
asked_is_short true (Some magic) = omega arith
asked_is_short true None = omega arith
asked_is_short false (Some magic) = omega arith
asked_is_short false None = omega arith

-- a list that begins another is no longer
pub front_is_short : (front rest whole : List ℕ) (n : ℕ) → front ++ rest ≡ whole → length whole ≤ n → length front ≤ n
front_is_short front rest whole n e h = let all = ap length e in let l = length-append front rest in omega arith
