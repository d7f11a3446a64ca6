-- The sum of words, from the front.
use Rattle.std.proofs.Common.{◌≡◌, ℕ, suc, ◌+◌, ◌*◌, ◌<◌, ◌≤◌, List, [], ◌∷◌, length, take, drop, refl, ap, arith}
use Rattle.byteorder.specs.Endian.{big_number}
use Rattle.capture_file.specs.Sums.{add_words, sum_from}

-- one word is added, and the others are left
one_more : (sum : ℕ) (left : List ℕ) → 1 < length left → sum_from (add_words sum (big_number 2 (take 2 left))) (drop 2 left) ≡ sum_from sum left
one_more sum [] more = absurd (omega arith)
one_more sum (a ∷ []) more = absurd (omega arith)
one_more sum (a ∷ b ∷ rest) more =
    let word : big_number 2 (a ∷ b ∷ []) ≡ a * 256 + b = omega arith in
    ap (λ (n : ℕ). sum_from (add_words sum n) rest) word

pub goes_on : (sum next n : ℕ) (left word rest : List ℕ) → 1 < length left → word ≡ take 2 left → rest ≡ drop 2 left → n ≡ big_number 2 word → next ≡ add_words sum n → sum_from next rest ≡ sum_from sum left
goes_on sum next n left word rest more front back is added = rw (added, is, front, back) (one_more sum left more)
