-- The next batch.
use Rattle.std.proofs.Common.{◌≡◌, ℕ, zero, suc, ◌+◌, ◌<◌, ◌≤◌, ◌==◌, min, Bool, true, false, List, [], ◌∷◌, length, take, drop, Some, None, refl, sym, ap, ◌∙◌, arith}
use Rattle.std.specs.Prelude.{nat_le}
use Rattle.std.proofs.Math.Seq.{take-nil}
use Rattle.std.proofs.lemmas.List.{length-take, length-drop}
use Rattle.std.proofs.lemmas.Bool.Decides.{nat_tests}
use Rattle.wire_base.specs.declared.pair.Pair.{Pair}
use Rattle.session_query.specs.Queries.{Asking, left_of, batch_if, next_batch}

few_by : (n : ℕ) (xs : List Pair) → take (min (length xs) n) xs ≡ take n xs
few_by n [] = take-nil (min 0 n) ∙ sym (take-nil n)
few_by zero (x ∷ xs) = (let none : min (suc (length xs)) 0 ≡ 0 = omega arith in ap (λ k. take k (x ∷ xs)) none)
few_by (suc n) (x ∷ xs) =
    let one : min (suc (length xs)) (suc n) ≡ suc (min (length xs) n) = omega arith in
    ap (λ k. take k (x ∷ xs)) one ∙ ap (λ ys. x ∷ ys) (few_by n xs)

-- the first of a list that are as many as it has, and 64 at most
pub few : (xs : List Pair) → take (min (length xs) 64) xs ≡ take 64 xs
few xs = few_by 64 xs

pub batch_is : (q : Asking) → q.asked ≡ 0 → q.done < length q.pairs → Some (take 64 (drop q.done q.pairs)) ≡ next_batch q
unfolding next_batch
batch_is q free left =
    let a : (q.asked == 0) ≡ true = grind (arith, nat_tests) in
    let b : nat_le (length q.pairs) q.done ≡ false = grind (arith, nat_tests) in
    rw (a, b) refl

pub none_is : (q : Asking) → 0 < q.asked → None ≡ next_batch q
unfolding next_batch
none_is q some =
    let a : (q.asked == 0) ≡ false = grind (arith, nat_tests) in
    rw a refl

over_by : (free : Bool) (xs : List Pair) → None ≡ batch_if free true xs
over_by true xs = refl
over_by false xs = refl

pub over_is : (q : Asking) → length q.pairs ≤ q.done → None ≡ next_batch q
unfolding next_batch
over_is q over =
    let b : nat_le (length q.pairs) q.done ≡ true = grind (arith, nat_tests) in
    rw b (over_by (q.asked == 0) (take 64 (left_of q)))

fits_by : (q : Asking) (free over : Bool) (b : List Pair) → q.done ≤ length q.pairs → batch_if free over (take 64 (left_of q)) ≡ Some b → q.done + length b ≤ length q.pairs
fits_by q true false b le is =
    let same : take 64 (left_of q) ≡ b = cc in
    let long : length b ≡ min 64 (length (left_of q)) = ap length (sym same) ∙ length-take 64 (left_of q) in
    omega (arith, long, length-drop q.done q.pairs, le)
fits_by q true true b le is = absurd cc
fits_by q false over b le is = absurd cc

-- a batch lies within what is left
pub batch_fits : (q : Asking) (b : List Pair) → q.done + q.asked ≤ length q.pairs → next_batch q ≡ Some b → q.done + length b ≤ length q.pairs
unfolding next_batch
batch_fits q b le is = fits_by q (q.asked == 0) (nat_le (length q.pairs) q.done) b (omega (arith, le)) is
