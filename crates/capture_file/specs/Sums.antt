-- The checksum of IPv4 and UDP (RFC 1071, RFC 791 section 3.1, RFC 768).
use Rattle.std.specs.Prelude.{ℕ, ◌<◌, ◌+◌, ◌-◌, ◌*◌, ◌==◌, List, [], ◌∷◌, nat_lt, if◌then◌else◌}

-- the one's complement sum of two words: what is carried out of their sum is added at its low end
abbrev pub add_words : ℕ → ℕ → ℕ
add_words a b = if nat_lt 65535 (a + b) then a + b - 65535 else a + b

-- a sum, and the words of bytes, the high byte of each first; a byte that is left over is the high one of a word
abbrev pub sum_from : ℕ → List ℕ → ℕ
sum_from sum [] = sum
sum_from sum (last ∷ []) = add_words sum (last * 256)
sum_from sum (high ∷ low ∷ rest) = sum_from (add_words sum (high * 256 + low)) rest

-- the complement of the sum of the words
unfoldable pub checksum : List ℕ → ℕ
checksum bytes = 65535 - sum_from 0 bytes

-- as UDP sends it: 0 would say that there is none, and 65535 is the other zero
abbrev pub sent_checksum : ℕ → ℕ
sent_checksum sum = if sum == 0 then 65535 else sum

abbrev pub IsByte : ℕ → Type 0
IsByte b = b < 256
