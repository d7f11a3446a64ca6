-- A word that std reads as a number, and the number that it spells without sign or leading zero.
use Rattle.std.proofs.Common.{◌≡◌, ℕ, ◌^◌, ◌<◌, ◌≤◌, true, false, leb, List, [], ◌∷◌, Some, None, refl, sym, ap, subst, ◌∙◌, arith}
use Rattle.std.specs.Prelude.{Result, Ok, Err, ◌&&◌}
use Rattle.std.specs.Result.{result_ok}
use Rattle.std.specs.Char.{is_ascii_digit}
use Rattle.std.specs.List.{list_all}
use Rattle.std.specs.Str.Parse.{IsNumeral, digits_value, ParsesUnsigned, without_leading_plus}
use Rattle.std.proofs.lemmas.Bool.{lt-ltb, le-ltb, leb-true, le-leb, and_parts}
use Rattle.std.proofs.lemmas.Str.Parse.{IsDigitsTest, IsNumeralModel, numerals_by_value, without_leading_plus_none}
use Rattle.option_values.specs.Values.{is_plain, numeral_of}

tells_plain : IsDigitsTest (λ ds. list_all is_ascii_digit ds ≡ true)
tells_plain = record {
  empty = refl;
  parts = λ c cs e. let k = and_parts (is_ascii_digit c) (list_all is_ascii_digit cs) e in let m = and_parts (leb 48 c) (leb c 57) k.0 in ((leb-true 48 c m.0, leb-true c 57 m.1), k.1);
  more = λ c cs k e i. (le-leb 48 c k.0 i && le-leb c 57 k.1 i) && e i;
}

own : IsNumeralModel (λ ds. list_all is_ascii_digit ds ≡ true) (digits_value 10)
own = numerals_by_value _ tells_plain

-- a word that isn't plain spells none
pub not_plain : (word : List ℕ) → is_plain word ≡ false → None ≡ numeral_of word
unfolding numeral_of
not_plain word e = rw e refl

-- no plus stands before digits
no_plus : (c : ℕ) (cs : List ℕ) → list_all is_ascii_digit (c ∷ cs) ≡ true → without_leading_plus (c ∷ cs) ≡ c ∷ cs
no_plus c cs digits =
    let first = (tells_plain.parts c cs digits).0 in
    without_leading_plus_none (c ∷ cs) (λ e. let bad : c ≡ 43 = e in let low = first.0 in absurd (omega arith))

spells : (word : List ℕ) → is_plain word ≡ true → digits_value 10 word < 2 ^ 64 → numeral_of word ≡ Some (digits_value 10 word)
unfolding numeral_of
spells word plain small = rw (plain, lt-ltb (digits_value 10 word) (2 ^ 64) small) refl

too_large : (word : List ℕ) → is_plain word ≡ true → 2 ^ 64 ≤ digits_value 10 word → numeral_of word ≡ None
unfolding numeral_of
too_large word plain large = rw (plain, le-ltb (digits_value 10 word) (2 ^ 64) large) refl

-- std's answer at a plain word
answered : {E : Type 0} (c : ℕ) (cs : List ℕ) (r : Result ℕ E) → is_plain (c ∷ cs) ≡ true → list_all is_ascii_digit (c ∷ cs) ≡ true
    → without_leading_plus (c ∷ cs) ≡ c ∷ cs → ParsesUnsigned 64 10 (c ∷ cs) r → result_ok r ≡ numeral_of (c ∷ cs)
answered c cs (Ok n) plain digits same parsed =
    let small : digits_value 10 (c ∷ cs) < 2 ^ 64 = subst (λ k. digits_value 10 k < 2 ^ 64) same parsed.0.1 in
    ap (λ (k : ℕ). Some k) (parsed.1 ∙ ap (digits_value 10) same) ∙ sym (spells (c ∷ cs) plain small)
answered c cs (Err e) plain digits same parsed =
    let numeral : IsNumeral 10 (c ∷ cs) = (omega arith, own.to (c ∷ cs) digits) in
    let not_small : digits_value 10 (c ∷ cs) < 2 ^ 64 → ⊥ = λ small. parsed (subst (λ k. IsNumeral 10 k) (sym same) numeral, subst (λ k. digits_value 10 k < 2 ^ 64) (sym same) small) in
    sym (too_large (c ∷ cs) plain (omega (arith, not_small)))

pub plain_parsed : {E : Type 0} (word : List ℕ) (r : Result ℕ E) → is_plain word ≡ true → ParsesUnsigned 64 10 word r → result_ok r ≡ numeral_of word
plain_parsed [] r plain parsed = cc
plain_parsed (c ∷ cs) r plain parsed =
    let digits = (and_parts _ (list_all is_ascii_digit (c ∷ cs)) plain).1 in
    answered c cs r plain digits (no_plus c cs digits) parsed
