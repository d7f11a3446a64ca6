-- What was written is read again.
use Rattle.std.proofs.Common.{◌≡◌, ℕ, ◌^◌, ◌<◌, ◌≤◌, ◌++◌, List, [], ◌∷◌, length, Option, Some, None, Ok, false, refl, sym, ap, ◌∙◌, arith, IsSomeAnd, IfSome}
use Rattle.std.specs.Prelude.{◌==◌}
use Rattle.std.proofs.lemmas.Bool.{ne_eqb, eq-eqb}
use Rattle.byteorder.specs.Endian.{big_number}
use Rattle.wire_base.specs.Numbers.{u16_bytes, u32_bytes}
use Rattle.wire_base.specs.NumberLaws.{length-u16_bytes, length-u32_bytes}
use Rattle.avp_codec.specs.declared.avp.Avp.{Avp}
use Rattle.avp_codec.specs.Spelling.{AreAvps, Fits}
use Rattle.control_message.specs.declared.kind.Kinds.{Kinds}
use Rattle.control_message.specs.declared.kind.Kind.TheVariants as kind
use Rattle.control_message.specs.declared.message.Message.{Message}
use Rattle.control_message.specs.declared.message.Message.TheVariants.{Sccrq, Sccrp, Scccn, StopCcn, Hello, Ocrq, Ocrp, Occn, Icrq, Icrp, Iccn, Cdn, Wen, Sli, Fsq, Fsr}
use Rattle.control_message.specs.declared.message.Opening.{Opening}
use Rattle.control_message.specs.declared.message.Failover.{Failover}
use Rattle.control_message.specs.declared.message.Recovery.{Recovery}
use Rattle.control_message.specs.declared.message.Suggested.{Suggested}
use Rattle.control_message.specs.declared.message.Read.TheVariants.{Known}
use Rattle.control_message.specs.Pairs.{pair, failover_pairs, recovery_pairs, suggested_pairs, draw_pairs, recovering_pairs, challenge_pairs, response_pairs, secret_pairs, told_pairs, opening_pairs, result_code_bytes, pairs_of, IsWritten, IsWrittenOpening}
use Rattle.control_message.specs.Grammar.{IsKnownTo}
use Rattle.control_message.specs.Reading.{message_by, checked, checked_all, u16_at, u32_at, response_at, icrq_at, icrp_at, iccn_at, result_code_in, result_code_at, stop_ccn_at, cdn_at}
use Rattle.control_message.proofs.Numbers.{short_again, long_again, told_value}
use Rattle.control_message.proofs.Laws.{only}
use Rattle.control_message.proofs.Written.{request_says, reply_says, query_says, response_says}
use Rattle.control_message.proofs.Sessions.{sessions_fit}

-- ---- pairs

pub fits : (n : ℕ) (v : List ℕ) → n < 2 ^ 16 → length v ≤ 1017 → Fits (pair n v)
fits n v lt le = record { reserved = omega arith; vendor = omega arith; attribute = lt; value = le }

pub fits_short : (n x : ℕ) → n < 2 ^ 16 → Fits (pair n (u16_bytes x))
fits_short n x lt = fits n (u16_bytes x) lt (omega (arith, length-u16_bytes x))

pub fits_long : (n x : ℕ) → n < 2 ^ 16 → Fits (pair n (u32_bytes x))
fits_long n x lt = fits n (u32_bytes x) lt (omega (arith, length-u32_bytes x))

pub failover_fits : (f : Option Failover) → AreAvps (failover_pairs f)
unfolding u16_bytes u32_bytes
failover_fits None = tt
failover_fits (Some f) = (record { reserved = omega arith; vendor = omega arith; attribute = omega arith; value = omega arith }, tt)

recovery_fits : (r : Option Recovery) → AreAvps (recovery_pairs r)
unfolding u16_bytes u32_bytes
recovery_fits None = tt
recovery_fits (Some r) = (record { reserved = omega arith; vendor = omega arith; attribute = omega arith; value = omega arith }, tt)

suggested_fits : (s : Option Suggested) → AreAvps (suggested_pairs s)
unfolding u16_bytes
suggested_fits None = tt
suggested_fits (Some s) = (record { reserved = omega arith; vendor = omega arith; attribute = omega arith; value = omega arith }, tt)

draw_fits : (d : Option ℕ) → AreAvps (draw_pairs d)
unfolding u32_bytes
draw_fits None = tt
draw_fits (Some x) = (record { reserved = omega arith; vendor = omega arith; attribute = omega arith; value = omega arith }, tt)

challenge_fits : (c : Option (List ℕ)) → IfSome c (λ v. length v ≤ 1017) → AreAvps (challenge_pairs c)
challenge_fits None h = tt
challenge_fits (Some v) h = (fits 11 v (omega arith) h, tt)

response_fits : (r : Option (List ℕ)) → IfSome r (λ v. length v ≡ 16) → AreAvps (response_pairs r)
response_fits None h = tt
response_fits (Some v) h = (fits 13 v (omega arith) (omega arith), tt)

both_fit : (v w : List Avp) → AreAvps v → AreAvps w → AreAvps (v ++ w)
both_fit [] w h k = k
both_fit (a ∷ v) w h k = (h.0, both_fit v w h.1 k)

told_fit : (o : Opening) → IsWrittenOpening o → AreAvps (told_pairs o)
told_fit o w =
    let two = both_fit (recovery_pairs o.recovery) (suggested_pairs o.suggested) (recovery_fits o.recovery) (suggested_fits o.suggested) in
    let recovering = both_fit (recovery_pairs o.recovery ++ suggested_pairs o.suggested) (draw_pairs o.attempt) two (draw_fits o.attempt) in
    let secrets = both_fit (challenge_pairs o.challenge) (response_pairs o.response) (challenge_fits o.challenge w.challenge) (response_fits o.response w.response) in
    let both = both_fit (failover_pairs o.failover) (recovering_pairs o) (failover_fits o.failover) recovering in
    both_fit (failover_pairs o.failover ++ recovering_pairs o) (secret_pairs o) both secrets

opening_fits : (number : ℕ) (o : Opening) → IsWrittenOpening o → AreAvps (opening_pairs number o)
opening_fits number o w =
    let more = told_fit o w in
    (fits_short 0 number (omega arith), (fits_short 2 o.version (omega arith), (fits_long 3 o.framing (omega arith), (fits 7 o.name (omega arith) w.name, (fits_short 9 o.tunnel (omega arith), (fits_short 10 o.window (omega arith), more))))))

result_code_fits : (result : ℕ) (error : Option ℕ) → Fits (pair 1 (result_code_bytes result error))
unfolding u16_bytes
result_code_fits result None = fits_short 1 result (omega arith)
result_code_fits result (Some error) = fits 1 (result_code_bytes result (Some error)) (omega arith) (omega arith)

pub pairs_fit : (m : Message) → IsWritten m → AreAvps (pairs_of m)
pairs_fit (Sccrq o) w = opening_fits 1 o w.0
pairs_fit (Sccrp o) w = opening_fits 2 o w.0
pairs_fit (Scccn response) w = (fits_short 0 3 (omega arith), response_fits response w)
pairs_fit (StopCcn tunnel result error) w = (fits_short 0 4 (omega arith), (fits_short 9 tunnel (omega arith), (result_code_fits result error, tt)))
pairs_fit Hello w = (fits_short 0 6 (omega arith), tt)
pairs_fit (Ocrq session) w = absurd w
pairs_fit Ocrp w = absurd w
pairs_fit Occn w = absurd w
pairs_fit (Icrq session serial calling) w =
    let number = told_value calling (λ v. length v ≤ 1017) w.2 in
    (fits_short 0 10 (omega arith), (fits_short 14 session (omega arith), (fits_long 15 serial (omega arith), rw number.1 (fits 22 number.0 (omega arith) number.2, tt))))
pairs_fit (Icrp session) w = (fits_short 0 11 (omega arith), (fits_short 14 session (omega arith), tt))
pairs_fit (Iccn speed framing sequenced) w = (fits_short 0 12 (omega arith), (fits_long 24 speed (omega arith), (fits_long 19 framing (omega arith), tt)))
pairs_fit (Cdn session result error) w = (fits_short 0 14 (omega arith), (result_code_fits result error, (fits_short 14 session (omega arith), tt)))
pairs_fit Wen w = absurd w
pairs_fit Sli w = absurd w
pairs_fit (Fsq sessions) w = (fits_short 0 21 (omega arith), sessions_fit sessions)
pairs_fit (Fsr sessions) w = (fits_short 0 22 (omega arith), sessions_fit sessions)

-- ---- messages

is_not_zero : (x : ℕ) → x < 2 ^ 16 → 0 < x → (big_number 2 (u16_bytes x) == 0) ≡ false
is_not_zero x lt some = rw (short_again x lt) (ne_eqb x 0 (λ e. omega arith))

-- an opening that was written is read again, in either message
request_again : (known : Kinds) (o : Opening) → IsWrittenOpening o → o.response ≡ None → o.suggested ≡ None → message_by known (opening_pairs 1 o) ≡ Ok (Known (Sccrq o))
request_again known o w unanswered unsuggested = only known (opening_pairs 1 o) (Known (Sccrq o)) (request_says known o w unanswered unsuggested)

reply_again : (known : Kinds) (o : Opening) → IsWrittenOpening o → o.recovery ≡ None → message_by known (opening_pairs 2 o) ≡ Ok (Known (Sccrp o))
reply_again known o w none = only known (opening_pairs 2 o) (Known (Sccrp o)) (reply_says known o w none)

scccn_again : (known : Kinds) (r : Option (List ℕ)) → IfSome r (λ v. length v ≡ 16) → message_by known (pairs_of (Scccn r)) ≡ Ok (Known (Scccn r))
unfolding message_by checked response_at u16_bytes
scccn_again known None wide = refl
scccn_again known (Some r) wide = rw (eq-eqb (length r) 16 wide) refl

icrq_checked : (session serial : ℕ) (v : List ℕ) → checked_all kind.Icrq [] (pairs_of (Icrq session serial (Some v))) ≡ Ok tt
unfolding checked u16_bytes u32_bytes
icrq_checked session serial v = refl

icrq_again : (session serial : ℕ) (v : List ℕ) → session < 2 ^ 16 → serial < 2 ^ 32 → icrq_at (pairs_of (Icrq session serial (Some v))) ≡ Ok (Icrq session serial (Some v))
unfolding icrq_at u16_at u32_at u16_bytes u32_bytes
icrq_again session serial v lt le = rw (short_again session lt, long_again serial le) refl

icrp_checked : (session : ℕ) → (big_number 2 (u16_bytes session) == 0) ≡ false → checked_all kind.Icrp [] (pairs_of (Icrp session)) ≡ Ok tt
unfolding checked u16_bytes
icrp_checked session some = rw some refl

icrp_again : (session : ℕ) → session < 2 ^ 16 → icrp_at (pairs_of (Icrp session)) ≡ Ok (Icrp session)
unfolding icrp_at u16_at u16_bytes
icrp_again session lt = rw (short_again session lt) refl

iccn_checked : (speed framing : ℕ) → checked_all kind.Iccn [] (pairs_of (Iccn speed framing false)) ≡ Ok tt
unfolding checked u16_bytes u32_bytes
iccn_checked speed framing = refl

iccn_again : (speed framing : ℕ) → speed < 2 ^ 32 → framing < 2 ^ 32 → iccn_at (pairs_of (Iccn speed framing false)) ≡ Ok (Iccn speed framing false)
unfolding iccn_at u32_at u16_bytes u32_bytes
iccn_again speed framing lt le = rw (long_again framing le, long_again speed lt) refl

cdn_checked : (session result : ℕ) (error : Option ℕ) → checked_all kind.Cdn [] (pairs_of (Cdn session result error)) ≡ Ok tt
unfolding checked u16_bytes
cdn_checked session result None = refl
cdn_checked session result (Some error) = refl

result_code_again : (result : ℕ) (error : Option ℕ) → result < 2 ^ 16 → IfSome error (λ x. x < 2 ^ 16) → result_code_in (result_code_bytes result error) ≡ Ok (result, error)
unfolding u16_bytes
result_code_again result None lt le = rw (short_again result lt) refl
result_code_again result (Some error) lt le = rw (short_again result lt, short_again error le) refl

cdn_again : (session result : ℕ) (error : Option ℕ) → IsWritten (Cdn session result error) → cdn_at (pairs_of (Cdn session result error)) ≡ Ok (Cdn session result error)
unfolding cdn_at result_code_at u16_at u16_bytes
cdn_again session result error w = rw (result_code_again result error w.1 w.2, short_again session w.0) refl

stop_ccn_checked : (tunnel result : ℕ) (error : Option ℕ) → checked_all kind.StopCcn [] (pairs_of (StopCcn tunnel result error)) ≡ Ok tt
unfolding checked u16_bytes
stop_ccn_checked tunnel result None = refl
stop_ccn_checked tunnel result (Some error) = refl

stop_ccn_again : (tunnel result : ℕ) (error : Option ℕ) → IsWritten (StopCcn tunnel result error)
    → stop_ccn_at (pairs_of (StopCcn tunnel result error)) ≡ Ok (StopCcn tunnel result error)
unfolding stop_ccn_at result_code_at u16_at u16_bytes
stop_ccn_again tunnel result error w = rw (result_code_again result error w.1 w.2, short_again tunnel w.0) refl

pub message_again : (known : Kinds) (m : Message) → IsKnownTo m known → IsWritten m → message_by known (pairs_of m) ≡ Ok (Known m)
unfolding message_by checked u16_bytes
message_again known (Sccrq o) is w = request_again known o w.0 w.1 w.2
message_again known (Sccrp o) is w = reply_again known o w.0 w.1
message_again known (Scccn response) is w = scccn_again known response w
message_again known (StopCcn tunnel result error) is w = rw (stop_ccn_checked tunnel result error, stop_ccn_again tunnel result error w) refl
message_again known Hello is w = refl
message_again known (Ocrq session) is w = absurd w
message_again known Ocrp is w = absurd w
message_again known Occn is w = absurd w
message_again known (Icrq session serial calling) is w =
    let number = told_value calling (λ v. length v ≤ 1017) w.2 in
    rw (number.1, icrq_checked session serial number.0, icrq_again session serial number.0 w.0 w.1) refl
message_again known (Icrp session) is w = rw (icrp_checked session (is_not_zero session w.0 w.1), icrp_again session w.0) refl
message_again known (Iccn speed framing sequenced) is w = rw (iccn_checked speed framing, iccn_again speed framing w.0 w.1, w.2) refl
message_again known (Cdn session result error) is w = rw (cdn_checked session result error, cdn_again session result error w) refl
message_again known Wen is w = absurd w
message_again known Sli is w = absurd w
message_again known (Fsq sessions) is w = only known (pairs_of (Fsq sessions)) (Known (Fsq sessions)) (query_says known sessions is w)
message_again known (Fsr sessions) is w = only known (pairs_of (Fsr sessions)) (Known (Fsr sessions)) (response_says known sessions is w)
