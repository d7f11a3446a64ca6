-- Which options an answer names.
use Rattle.std.proofs.Common.{◌≡◌, ◌≢◌, ℕ, ◌<◌, ◌^◌, Bool, true, false, not, if◌then◌else◌, List, [], ◌∷◌, ◌++◌, length, filter, refl, ap, arith}
use Rattle.std.proofs.lemmas.Bool.{ne_eqb}
use Rattle.std.specs.List.{flat_map}
use Rattle.byteorder.specs.Endian.{big_number}
use Rattle.wire_base.specs.Numbers.{u16_bytes, u32_bytes}
use Rattle.lcp_wire.specs.declared.packet.LcpOption.{LcpOption}
use Rattle.lcp_wire.specs.Spelling.{spelling_of, spelling}
use Rattle.lcp_end.specs.declared.options.Verdict.TheVariants.{Ack, Nak, RejectBad, RejectUnknown}
use Rattle.lcp_end.specs.Options.{is_known, is_good, suggested, part, answer_body}
use Rattle.lcp_end.specs.Laws.{EachAnswersOptions, EachSuggestsGood}

-- an option that is left out, or adds its part
one_more : (b : Bool) (f : LcpOption → List ℕ) (o : LcpOption) (bytes : List ℕ) (kept : List LcpOption) → bytes ≡ flat_map f kept →
    (if b then [] else f o) ++ bytes ≡ flat_map f (if not b then o ∷ kept else kept)
one_more true f o bytes kept e = e
one_more false f o bytes kept e = ap (λ rest. f o ++ rest) e

ack_is : (own wish : ℕ) (options : List LcpOption) → answer_body Ack own wish options ≡ spelling options
unfolding part
ack_is own wish [] = refl
ack_is own wish (o ∷ os) = ap (λ rest. spelling_of o ++ rest) (ack_is own wish os)

unknown_is : (own wish : ℕ) (options : List LcpOption) → answer_body RejectUnknown own wish options ≡ spelling (filter (λ o. not (is_known o)) options)
unfolding part
unknown_is own wish [] = refl
unknown_is own wish (o ∷ os) = one_more (is_known o) spelling_of o _ _ (unknown_is own wish os)

bad_is : (own wish : ℕ) (options : List LcpOption) → answer_body RejectBad own wish options ≡ spelling (filter (λ o. not (is_good own o)) options)
unfolding part
bad_is own wish [] = refl
bad_is own wish (o ∷ os) = one_more (is_good own o) spelling_of o _ _ (bad_is own wish os)

nak_is : (own wish : ℕ) (options : List LcpOption) →
    answer_body Nak own wish options ≡ flat_map (λ o. suggested wish o.kind) (filter (λ o. not (is_good own o)) options)
unfolding part
nak_is own wish [] = refl
nak_is own wish (o ∷ os) = one_more (is_good own o) (λ x. suggested wish x.kind) o _ _ (nak_is own wish os)

pub each_answers_options : EachAnswersOptions
each_answers_options own wish options =
    record { ack = ack_is own wish options; unknown = unknown_is own wish options; bad = bad_is own wish options; nak = nak_is own wish options }

number_is : (n : ℕ) → n < 2 ^ 32 → big_number 4 (u32_bytes n) ≡ n
unfolding u32_bytes
number_is n lt = omega arith

good_mru : (own : ℕ) → is_good own (record { kind = 1; value = u16_bytes 1492 }) ≡ true
unfolding is_good u16_bytes
good_mru own = refl

length_is : (n : ℕ) → length (u32_bytes n) ≡ 4
unfolding u32_bytes
length_is n = refl

good_magic : (own wish : ℕ) → wish < 2 ^ 32 → wish ≢ 0 → wish ≢ own → is_good own (record { kind = 5; value = u32_bytes wish }) ≡ true
unfolding is_good
good_magic own wish lt zero other = rw (length_is wish, number_is wish lt, ne_eqb wish 0 zero, ne_eqb wish own other) refl

pub each_suggests_good : EachSuggestsGood
each_suggests_good own wish lt zero other = record { mru = good_mru own; magic = good_magic own wish lt zero other }
