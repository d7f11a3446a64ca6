-- How long a message is that was written.
use Rattle.std.proofs.Common.{◌≡◌, ℕ, ◌+◌, ◌*◌, ◌≤◌, List, [], ◌∷◌, ◌++◌, length, Option, Some, None, IfSome, refl, ap, ◌∙◌, arith}
use Rattle.std.proofs.lemmas.List.{length-append}
use Rattle.std.proofs.lemmas.List.Concat.{flat_map-cons}
use Rattle.wire_base.specs.Numbers.{u16_bytes, u32_bytes}
use Rattle.wire_base.specs.declared.pair.Pair.{Pair}
use Rattle.avp_codec.specs.declared.avp.Avp.{Avp}
use Rattle.avp_codec.specs.Spelling.{spelling_of, spelling}
use Rattle.control_message.specs.declared.message.Message.{Message}
use Rattle.control_message.specs.declared.message.Message.TheVariants.{Sccrq, Sccrp, Scccn, StopCcn, Hello, Ocrq, Ocrp, Occn, Icrq, Icrp, Iccn, Cdn, Wen, Sli, Fsq, Fsr}
use Rattle.control_message.specs.declared.message.Opening.{Opening}
use Rattle.control_message.specs.declared.message.Failover.{Failover}
use Rattle.control_message.specs.declared.message.Recovery.{Recovery}
use Rattle.control_message.specs.declared.message.Suggested.{Suggested}
use Rattle.control_message.specs.Pairs.{pair, failover_pairs, recovery_pairs, suggested_pairs, draw_pairs, recovering_pairs, challenge_pairs, response_pairs, secret_pairs, told_pairs, opening_pairs, calling_pairs, session_pair, session_pairs, pairs_of, IsWritten, IsWrittenOpening}
use Rattle.control_message.proofs.Numbers.{told_value}

-- one pair more
pub one_spelled : (a : Avp) (avps : List Avp) → length (spelling (a ∷ avps)) ≡ 6 + length a.value + length (spelling avps)
unfolding u16_bytes
one_spelled a avps = ap length (flat_map-cons spelling_of a avps) ∙ length-append (spelling_of a) (spelling avps) ∙ omega arith

failover_room : (f : Option Failover) → length (spelling (failover_pairs f)) ≤ 12
unfolding u16_bytes u32_bytes
failover_room None = omega arith
failover_room (Some f) = omega arith

recovery_room : (r : Option Recovery) → length (spelling (recovery_pairs r)) ≤ 16
unfolding u16_bytes u32_bytes
recovery_room None = omega arith
recovery_room (Some r) = omega arith

suggested_room : (s : Option Suggested) → length (spelling (suggested_pairs s)) ≤ 12
unfolding u16_bytes
suggested_room None = omega arith
suggested_room (Some s) = omega arith

draw_room : (d : Option ℕ) → length (spelling (draw_pairs d)) ≤ 10
unfolding u16_bytes u32_bytes
draw_room None = omega arith
draw_room (Some x) = omega arith

challenge_room : (c : Option (List ℕ)) → IfSome c (λ v. length v ≤ 1017) → length (spelling (challenge_pairs c)) ≤ 1023
unfolding u16_bytes
challenge_room None h = omega arith
challenge_room (Some v) h = simp length-append (omega arith)

response_room : (r : Option (List ℕ)) → IfSome r (λ v. length v ≡ 16) → length (spelling (response_pairs r)) ≤ 22
unfolding u16_bytes
response_room None h = omega arith
response_room (Some v) h = simp length-append (omega arith)

both_spelled : (v w : List Avp) → length (spelling (v ++ w)) ≡ length (spelling v) + length (spelling w)
both_spelled [] w = omega arith
both_spelled (a ∷ v) w =
    let ih = both_spelled v w in
    let l = one_spelled a (v ++ w) in
    let r = one_spelled a v in
    omega arith

told_room : (o : Opening) → IsWrittenOpening o → length (spelling (told_pairs o)) ≤ 1095
told_room o w =
    let failover = failover_room o.failover in
    let recovery = recovery_room o.recovery in
    let suggested = suggested_room o.suggested in
    let draw = draw_room o.attempt in
    let challenge = challenge_room o.challenge w.challenge in
    let response = response_room o.response w.response in
    let two = both_spelled (recovery_pairs o.recovery) (suggested_pairs o.suggested) in
    let recovering = both_spelled (recovery_pairs o.recovery ++ suggested_pairs o.suggested) (draw_pairs o.attempt) in
    let secrets = both_spelled (challenge_pairs o.challenge) (response_pairs o.response) in
    let both = both_spelled (failover_pairs o.failover) (recovering_pairs o) in
    let all = both_spelled (failover_pairs o.failover ++ recovering_pairs o) (secret_pairs o) in
    omega arith

opening_room : (number : ℕ) (o : Opening) → IsWrittenOpening o → length (spelling (opening_pairs number o)) ≤ 65523
unfolding u16_bytes u32_bytes
opening_room number o w =
    let name = w.name in
    let told = told_room o w in
    simp length-append (omega arith)

calling_room : (number : List ℕ) → length number ≤ 1017 → length (spelling (calling_pairs (Some number))) ≤ 1023
unfolding u16_bytes
calling_room number le = simp length-append (omega arith)

sessions_room : (sessions : List Pair) → length (spelling (session_pairs sessions)) ≡ 16 * length sessions
unfolding u16_bytes u32_bytes
sessions_room [] = refl
sessions_room (p ∷ sessions) =
    let ih = sessions_room sessions in
    let one = one_spelled (session_pair p) (session_pairs sessions) in
    omega arith

query_room : (number : ℕ) (sessions : List Pair) → length sessions ≤ 4094 → length (spelling (pair 0 (u16_bytes number) ∷ session_pairs sessions)) ≤ 65523
unfolding u16_bytes
query_room number sessions few =
    let more = sessions_room sessions in
    let one = one_spelled (pair 0 (u16_bytes number)) (session_pairs sessions) in
    omega arith

pub room : (m : Message) → IsWritten m → length (spelling (pairs_of m)) ≤ 65523
unfolding u16_bytes u32_bytes
room (Sccrq o) w = opening_room 1 o w.0
room (Sccrp o) w = opening_room 2 o w.0
room (Scccn response) w = let more = response_room response w in simp length-append (omega arith)
room (StopCcn tunnel result None) w = omega arith
room (StopCcn tunnel result (Some error)) w = omega arith
room Hello w = omega arith
room (Ocrq session) w = absurd w
room Ocrp w = absurd w
room Occn w = absurd w
room (Icrq session serial calling) w =
    let number = told_value calling (λ v. length v ≤ 1017) w.2 in
    let le = calling_room number.0 number.2 in
    rw number.1 (simp length-append (omega arith))
room (Icrp session) w = omega arith
room (Iccn speed framing sequenced) w = omega arith
room (Cdn session result None) w = omega arith
room (Cdn session result (Some error)) w = omega arith
room Wen w = absurd w
room Sli w = absurd w
room (Fsq sessions) w = query_room 21 sessions w.few
room (Fsr sessions) w = query_room 22 sessions w.few
