-- How long a Calling Number is.
use Rattle.std.proofs.Common.{◌≡◌, ℕ, ◌++◌, List, length, replicate, arith}
use Rattle.std.proofs.lemmas.List.{length-take-le, length-append, length-replicate}
use Rattle.hex.specs.Hex.{lower_digits}
use Rattle.hex.proofs.HexLemmas.{length-encode_with}
use Rattle.end_names.specs.Names.{six, calling_number}

six_bytes : (who : List ℕ) → length (six who) ≡ 6
six_bytes who =
    length-take-le 6 (who ++ replicate 6 0)
    (let added = length-append who (replicate 6 0) in let zeros = length-replicate {A = ℕ} 6 0 in omega (arith, added, zeros))

pub length-calling_number : (who : List ℕ) → length (calling_number who) ≡ 12
unfolding calling_number
length-calling_number who = let e = length-encode_with lower_digits (six who) in let s = six_bytes who in omega (arith, e, s)
