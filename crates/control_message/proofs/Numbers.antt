-- Numbers that were written are read again.
use Rattle.std.proofs.Common.{◌≡◌, ℕ, ◌^◌, ◌<◌, ◌++◌, List, [], Option, Some, None, refl, sym, ap, ◌∙◌, arith, IsSomeAnd}
use Rattle.std.proofs.lemmas.List.{append-nil}
use Rattle.byteorder.specs.Endian.{big_number}
use Rattle.wire_base.specs.Numbers.{u16_bytes, u32_bytes}
use Rattle.wire_base.specs.NumberLaws.{number-u16_bytes}

pub short_again : (x : ℕ) → x < 2 ^ 16 → big_number 2 (u16_bytes x) ≡ x
short_again x lt = ap (big_number 2) (sym (append-nil (u16_bytes x))) ∙ number-u16_bytes x [] lt

pub long_again : (x : ℕ) → x < 2 ^ 32 → big_number 4 (u32_bytes x) ≡ x
unfolding u32_bytes
long_again x lt = omega arith

-- whatever follows
pub long_before : (x : ℕ) (rest : List ℕ) → x < 2 ^ 32 → big_number 4 (u32_bytes x ++ rest) ≡ x
unfolding u32_bytes
long_before x rest lt = omega arith

-- what an option holds
pub told_value : {A : Type 0} (o : Option A) (P : A → Type 0) → IsSomeAnd o P → (x : A) × (o ≡ Some x) × P x
told_value None P h = absurd h
told_value (Some x) P h = (x, refl, h)
