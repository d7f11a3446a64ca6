-- Cutting a text at a byte.
use Rattle.std.proofs.Common.{◌≡◌, ℕ, suc, ◌+◌, cond, eqb, ltb, List, [], ◌∷◌, length, take, drop, Option, Some, None, refl, ap, ◌∙◌, arith, inl, inr}
use Rattle.std.specs.Prelude.{option_map}
use Rattle.std.specs.List.{position_or_len, position}
use Rattle.std.proofs.lemmas.Bool.{cases_Bool, cases_lt, lt-ltb, le-ltb}
use Rattle.schedule_text.specs.Reading.{cut}

abbrev parts_at : List ℕ → ℕ → List ℕ × List ℕ
parts_at xs i = (take i xs, drop (i + 1) xs)

abbrev place : List ℕ → ℕ → Option ℕ
place xs n = cond (ltb n (length xs)) (Some n) None

one_further : (x n : ℕ) (xs : List ℕ) → option_map (λ parts. (x ∷ parts.0, parts.1)) (option_map (parts_at xs) (place xs n)) ≡ option_map (parts_at (x ∷ xs)) (place (x ∷ xs) (suc n))
one_further x n xs =
    let k : suc n + 1 ≡ suc (n + 1) = omega arith in
    elim (cases_lt n (length xs)) [
      | inl lt ↦ rw (lt-ltb n (length xs) lt, lt-ltb (suc n) (suc (length xs)) (omega arith), k) refl
      | inr le ↦ rw (le-ltb n (length xs) le, le-ltb (suc n) (suc (length xs)) (omega arith)) refl
    ]

-- where the byte stands, if it does
cut_is : (c : ℕ) (xs : List ℕ) → cut c xs ≡ option_map (parts_at xs) (position (λ b. eqb b c) xs)
cut_is c [] = refl
cut_is c (x ∷ xs) =
    elim (cases_Bool (eqb x c)) [
      | inl e ↦ rw (e, lt-ltb 0 (suc (length xs)) (omega arith)) refl
      | inr e ↦
          let n : ℕ = position_or_len (λ b. eqb b c) xs in
          let k : 1 + n ≡ suc n = omega arith in
          rw (e, cut_is c xs, k) (one_further x n xs)
    ]

pub cut_none : (c : ℕ) (xs : List ℕ) → position (λ b. eqb b c) xs ≡ None → cut c xs ≡ None
cut_none c xs e = cut_is c xs ∙ ap (option_map (parts_at xs)) e

pub cut_some : (c : ℕ) (xs : List ℕ) (i : ℕ) → position (λ b. eqb b c) xs ≡ Some i → cut c xs ≡ Some (take i xs, drop (i + 1) xs)
cut_some c xs i e = cut_is c xs ∙ ap (option_map (parts_at xs)) e
