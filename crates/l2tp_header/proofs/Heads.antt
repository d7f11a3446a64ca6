-- Numbers in two bytes.
use Rattle.std.proofs.Common.{◌≡◌, ℕ, ◌<◌, ◌^◌, ◌/◌, ◌%◌, arith}

-- the high byte of one
pub high_byte : (x : ℕ) → x < 2 ^ 16 → x / 256 % 256 ≡ x / 256
high_byte x lt = omega arith
