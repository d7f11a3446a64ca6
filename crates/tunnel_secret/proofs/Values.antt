-- Plain texts, and the values in them.
use Rattle.std.proofs.Common.{◌≡◌, ℕ, ◌+◌, ◌^◌, ◌<◌, ◌≤◌, List, [], ◌∷◌, ◌++◌, length, take, drop, replicate, Result, Ok, Err, inl, inr, refl, sym, ap, subst, ◌∙◌, arith, length-take}
use Rattle.std.specs.Prelude.{IfOk, IfErr}
use Rattle.std.proofs.lemmas.Bool.{lt-ltb, cases_lt}
use Rattle.std.proofs.lemmas.List.{take-append-drop}
use Rattle.wire_base.specs.Answers.{Gives}
use Rattle.std.proofs.lemmas.Grind.{common_steps}
use Rattle.std.proofs.Math.Seq.{take-append_seam}
use Rattle.wire_base.specs.Numbers.{u16_bytes, number_at}
use Rattle.wire_base.specs.NumberLaws.{AreBytes, length-u16_bytes, number-u16_bytes, u16_bytes-number, number-lt}
use Rattle.tunnel_secret.specs.declared.error.UnhideError.{UnhideError}
use Rattle.tunnel_secret.specs.declared.error.UnhideError.TheVariants.{BadLength, NoMemory}
use Rattle.tunnel_secret.specs.Holding.{HoldsValue, HasBadLength, IsPlainFault, Hides, HidesNone, IsFault}
use Rattle.tunnel_secret.specs.declared.hiding.Direction.TheVariants.{Hide, Unhide}
use Rattle.tunnel_secret.specs.Hiding.{first_mask, plain_text, hidden, ciphered, text_of}
use Rattle.tunnel_secret.specs.Revealing.{Told, part_of, value_of, unhidden}
use Rattle.tunnel_secret.proofs.Blocks.{length-md5, text_again}

number_front : (n : ℕ) (rest : List ℕ) → n < 2 ^ 16 → number_at 2 (u16_bytes n ++ rest) 0 ≡ Ok n
number_front n rest small = let e = number-u16_bytes n rest small in let l = length-u16_bytes n in grind (arith, common_steps)

behind_front : (n : ℕ) (rest : List ℕ) → drop 2 (u16_bytes n ++ rest) ≡ rest
unfolding u16_bytes
behind_front n rest = refl

part_front : (value behind : List ℕ) → part_of (length value) (value ++ behind) ≡ Ok value
part_front value behind = let e = take-append_seam value behind in grind (arith, common_steps)

-- ---- what stands in a plain text

pub value_again : (value behind : List ℕ) → length value < 2 ^ 16 → value_of (u16_bytes (length value) ++ value ++ behind) ≡ Ok value
unfolding u16_bytes
value_again value behind small =
    rw (number_front (length value) (value ++ behind) small, behind_front (length value) (value ++ behind)) (part_front value behind)

pub unhidden_again : (attribute : ℕ) (secret vector value : List ℕ) (padding : ℕ) → 2 + length value + padding ≤ 1017 → unhidden attribute secret vector (hidden attribute secret vector value padding) ≡ Ok value
unhidden_again attribute secret vector value padding fits =
    ap value_of (text_again Hide secret (first_mask attribute secret vector) (plain_text value padding) (length-md5 _))
    ∙ value_again value (replicate padding 0) (omega arith)

pub length-plain_text : (value : List ℕ) (padding : ℕ) → length (plain_text value padding) ≡ 2 + length value + padding
length-plain_text value padding = let l = length-u16_bytes (length value) in grind (arith, common_steps)

-- ---- the other way

short_again : (plain : List ℕ) → length plain < 2 → value_of plain ≡ Err (BadLength 0 0)
short_again [] short = refl
short_again (a ∷ []) short = refl
short_again (a ∷ b ∷ plain) short = absurd (omega arith)

bad_again : (said : ℕ) (behind : List ℕ) → said < 2 ^ 16 → length behind < said → value_of (u16_bytes said ++ behind) ≡ Err (BadLength said (length behind))
unfolding u16_bytes
bad_again said behind small wrong =
    rw (number_front said behind small, behind_front said behind, lt-ltb (length behind) said wrong) refl

-- what a plain text holds
abbrev Outcome : List ℕ → Result (List ℕ) UnhideError → Type 0
Outcome plain (Ok v) = HoldsValue v plain
Outcome plain (Err e) = IsPlainFault plain e

with_length : (plain : List ℕ) (said : ℕ) (behind : List ℕ) → said < 2 ^ 16 → plain ≡ u16_bytes said ++ behind → Outcome plain (value_of plain)
unfolding u16_bytes
with_length plain said behind small parts =
    elim (cases_lt (length behind) said) [
      | inl wrong ↦ subst (Outcome plain) (sym (ap value_of parts ∙ bad_again said behind small wrong))
          (inr (record { behind = behind; fits = small; parts = parts; total = refl; wrong = wrong }))
      | inr whole ↦
          let size : length (take said behind) ≡ said = omega (arith, length-take said behind) in
          let spelled : plain ≡ u16_bytes (length (take said behind)) ++ take said behind ++ drop said behind =
          parts ∙ sym (rw (size, take-append-drop said behind) refl) in
          let fits : length (take said behind) < 2 ^ 16 = omega (arith, size) in
          subst (Outcome plain) (sym (ap value_of spelled ∙ value_again (take said behind) (drop said behind) fits))
          (record { padding = drop said behind; fits = fits; parts = spelled })
    ]

outcome : (plain : List ℕ) → AreBytes plain → Outcome plain (value_of plain)
outcome plain fits =
    elim (cases_lt (length plain) 2) [
      | inl short ↦ subst (Outcome plain) (sym (short_again plain short)) (inl (short, refl, refl))
      | inr two ↦ with_length plain _ (drop 2 plain) (number-lt plain fits)
          (sym (take-append-drop 2 plain) ∙ ap (λ front. front ++ drop 2 plain) (sym (u16_bytes-number plain fits two)))
    ]

pub is_found : (plain : List ℕ) (r : Result (List ℕ) UnhideError) → AreBytes plain → Gives Told (λ v. v) r (value_of plain) → IfOk r (λ v. HoldsValue v plain)
is_found plain (Ok v) fits given = subst (Outcome plain) given (outcome plain fits)
is_found plain (Err e) fits given = tt

pub is_told : (plain : List ℕ) (r : Result (List ℕ) UnhideError) → AreBytes plain → Gives Told (λ v. v) r (value_of plain) → IfErr r (IsPlainFault plain)
is_told plain (Ok v) fits given = tt
is_told plain (Err NoMemory) fits given = tt
is_told plain (Err (BadLength said have)) fits given = subst (Outcome plain) given (outcome plain fits)

-- ---- cipher text

plain_again : (attribute : ℕ) (secret vector cipher plain : List ℕ) → plain ≡ text_of Unhide secret (first_mask attribute secret vector) cipher → cipher ≡ ciphered attribute secret vector plain
plain_again attribute secret vector cipher plain e =
    sym (ap (text_of Hide secret (first_mask attribute secret vector)) e ∙ text_again Unhide secret (first_mask attribute secret vector) cipher (length-md5 _))

cipher_again : (attribute : ℕ) (secret vector cipher plain : List ℕ) → cipher ≡ ciphered attribute secret vector plain → unhidden attribute secret vector cipher ≡ value_of plain
cipher_again attribute secret vector cipher plain e =
    ap (λ c. value_of (text_of Unhide secret (first_mask attribute secret vector) c)) e
    ∙ ap value_of (text_again Hide secret (first_mask attribute secret vector) plain (length-md5 _))

pub hides : (attribute : ℕ) (secret vector cipher plain : List ℕ) (r : Result (List ℕ) UnhideError) → plain ≡ text_of Unhide secret (first_mask attribute secret vector) cipher → IfOk r (λ v. HoldsValue v plain) → IfOk r (λ v. Hides attribute secret vector v cipher)
hides attribute secret vector cipher plain (Ok v) e h = record { plain = plain; made = plain_again attribute secret vector cipher plain e; holds = h }
hides attribute secret vector cipher plain (Err x) e h = tt

pub hides_none : (attribute : ℕ) (secret vector cipher plain : List ℕ) (r : Result (List ℕ) UnhideError) → plain ≡ text_of Unhide secret (first_mask attribute secret vector) cipher → IfErr r (IsPlainFault plain) → IfErr r (IsFault attribute secret vector cipher)
hides_none attribute secret vector cipher plain (Ok v) e h = tt
hides_none attribute secret vector cipher plain (Err NoMemory) e h = tt
hides_none attribute secret vector cipher plain (Err (BadLength said have)) e h = record { plain = plain; made = plain_again attribute secret vector cipher plain e; bad = h }

pub given_again : (attribute : ℕ) (secret vector v cipher : List ℕ) → Hides attribute secret vector v cipher → unhidden attribute secret vector cipher ≡ Ok v
given_again attribute secret vector v cipher h =
    cipher_again attribute secret vector cipher h.plain h.made ∙ ap value_of h.holds.parts ∙ value_again v h.holds.padding h.holds.fits

bad_plain : (plain : List ℕ) (said have : ℕ) → HasBadLength plain said have → value_of plain ≡ Err (BadLength said have)
bad_plain plain said have (inl short) = rw (short.1, short.2) (short_again plain short.0)
bad_plain plain said have (inr early) = rw early.total (ap value_of early.parts ∙ bad_again said early.behind early.fits early.wrong)

pub told_again : (attribute : ℕ) (secret vector cipher : List ℕ) (said have : ℕ) → HidesNone attribute secret vector cipher said have → unhidden attribute secret vector cipher ≡ Err (BadLength said have)
told_again attribute secret vector cipher said have h =
    cipher_again attribute secret vector cipher h.plain h.made ∙ bad_plain h.plain said have h.bad
