-- Numbers in decimal.
use Rattle.std.proofs.Common.{◌≡◌, ℕ, zero, suc, ◌+◌, ◌-◌, ◌*◌, ◌^◌, ◌<◌, ◌≤◌, Bool, true, false, cond, leb, List, [], ◌∷◌, length, drop, get_or, Option, Some, None, refl, sym, ap, subst, ◌∙◌, arith}
use Rattle.std.specs.Char.{is_ascii_digit, digit_value}
use Rattle.std.specs.Str.{all_ascii_digits}
use Rattle.std.specs.Str.Parse.{digits_value, digits_value_after}
use Rattle.std.specs.Fmt.{decimal}
use Rattle.std.proofs.lemmas.Bool.{lt-leb, le-leb, leb-true, eqb-false, ne_eqb, not-true, not_from_false, false≢true, and_parts, and_right, cond-false}
use Rattle.std.proofs.lemmas.Option.{cond_some, none-some}
use Rattle.std.proofs.lemmas.Bool.Decides.{nat_tests}
use Rattle.std.proofs.lemmas.List.{at_drop_more}
use Rattle.std.proofs.lemmas.Str.{digit_value_digit}
use Rattle.std.proofs.lemmas.Str.Parse.{IsNumeralModel, numerals_by_value, tells_all_ascii_digits}
use Rattle.std.proofs.lemmas.Fmt.{decimal-digits_value, digits_decimal, digits_value-decimal, first_decimal, decimal_nonempty, decimal_digit}
use Rattle.schedule_text.specs.Reading.{◌>>=◌, begins_well, digits_of, number_of}

-- ---- the loop over the digits

-- the digits before a place are read
pub record Stands (word : List ℕ) (most at number : ℕ) : Type 0 where
  pub digits : all_ascii_digits (drop at word) ≡ all_ascii_digits word
  pub value : digits_value_after 10 number (drop at word) ≡ digits_value 10 word
  pub small : number ≤ most

value_grows : (n : ℕ) (ds : List ℕ) → n ≤ digits_value_after 10 n ds
value_grows n [] = omega arith
value_grows n (d ∷ ds) = omega (arith, value_grows (n * 10 + digit_value d) ds)

-- one more digit, and the number is over the bound
pub passes : (word : List ℕ) (most at number d : ℕ) → Stands word most at number → at < length word → d ≡ get_or word at 0 - 48 → is_ascii_digit (get_or word at 0) ≡ true → most < number * 10 + d → digits_of most word ≡ None
unfolding digits_of
passes word most at number d h lt e digit over =
    let c : ℕ = get_or word at 0 in
    let step : digits_value_after 10 (number * 10 + digit_value c) (drop (at + 1) word) ≡ digits_value 10 word = sym (at_drop_more (digits_value_after 10 number) word at 0 lt) ∙ h.value in
    let grows = value_grows (number * 10 + digit_value c) (drop (at + 1) word) in
    let both = and_parts (leb 48 c) (leb c 57) digit in
    let same : digit_value c + 48 ≡ c = digit_value_digit c (leb-true 48 c both.0, leb-true c 57 both.1) in
    let large : leb (digits_value 10 word) most ≡ false = lt-leb (digits_value 10 word) most (omega arith) in
    cond-false _ _ _ (and_right (all_ascii_digits word) _ large)

-- ---- numbers and their spelling

-- what tells the digits, and their value
pub own : IsNumeralModel (λ ds. all_ascii_digits ds ≡ true) (digits_value 10)
own = numerals_by_value _ tells_all_ascii_digits

pub digits_found : (most n : ℕ) (word : List ℕ) → digits_of most word ≡ Some n → (all_ascii_digits word ≡ true) × (digits_value 10 word ≡ n) × (n ≤ most)
unfolding digits_of
digits_found most n word e = grind (arith, nat_tests)

pub digits_again : (most : ℕ) (word : List ℕ) → all_ascii_digits word ≡ true → digits_value 10 word ≤ most → digits_of most word ≡ Some (digits_value 10 word)
unfolding digits_of
digits_again most word all le = rw (all, le-leb (digits_value 10 word) most le) refl

-- a word that begins well, the number of its digits, and the lower bound
picked : (b : Bool) (o : Option ℕ) (least n : ℕ) → cond b (o >>= λ m. cond (leb least m) (Some m) None) None ≡ Some n → (b ≡ true) × (o ≡ Some n) × (least ≤ n)
picked true (Some m) least n e = let p = cond_some (leb least m) m n e in (refl, ap (λ (k : ℕ). Some k) p.1, subst (λ k. least ≤ k) p.1 (leb-true least m p.0))
picked true None least n e = absurd (none-some n e)
picked false o least n e = absurd (none-some n e)

first_of_well : (word : List ℕ) → begins_well word ≡ true → (0 < length word) × (get_or word 0 0 ≡ 48 → length word ≡ 1)
first_of_well [] e = absurd (false≢true e)
first_of_well (c ∷ []) e = (omega arith, λ f. omega arith)
first_of_well (c ∷ d ∷ ds) e = (omega arith, λ f. absurd (eqb-false c 48 (not-true _ e) f))

well_by_first : (word : List ℕ) → 0 < length word → 48 < get_or word 0 0 → begins_well word ≡ true
well_by_first [] some e = absurd (omega arith)
well_by_first (c ∷ []) some e = refl
well_by_first (c ∷ d ∷ ds) some e = not_from_false _ (ne_eqb c 48 (λ f. omega arith))

-- the number that a word spells has the word as its spelling
pub number_found : (least most n : ℕ) (word : List ℕ) → most < 2 ^ 64 → number_of least most word ≡ Some n → (word ≡ decimal n) × (least ≤ n) × (n ≤ most)
unfolding number_of
number_found least most n word small e =
    let p = picked (begins_well word) (digits_of most word) least n e in
    let d = digits_found most n word p.1 in
    let f = first_of_well word p.0 in
    let s : decimal (digits_value 10 word) ≡ word = decimal-digits_value own word d.0 f.0 f.1 (omega (arith, d.1, d.2)) in
    (sym s ∙ ap decimal d.1, p.2, d.2)

well_begun : (n : ℕ) → n < 2 ^ 64 → begins_well (decimal n) ≡ true
well_begun zero lt = rw (decimal_digit 0 (omega arith)) refl
well_begun (suc n) lt = well_by_first (decimal (suc n)) (decimal_nonempty (suc n) lt) (first_decimal (suc n) (omega arith) lt)

-- the spelling of a number spells it
pub number_again : (least most n : ℕ) → most < 2 ^ 64 → least ≤ n → n ≤ most → number_of least most (decimal n) ≡ Some n
unfolding number_of
number_again least most n small low high =
    let lt : n < 2 ^ 64 = omega arith in
    let value : digits_value 10 (decimal n) ≡ n = digits_value-decimal own n lt in
    let digits : digits_of most (decimal n) ≡ Some n = digits_again most (decimal n) (digits_decimal own n lt) (omega arith) ∙ ap (λ (k : ℕ). Some k) value in
    rw (well_begun n lt, digits, le-leb least n low) refl
