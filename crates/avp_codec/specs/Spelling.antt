-- The one spelling of each list of pairs (RFC 2661 section 4.1).
use Rattle.std.specs.Prelude.{ℕ, ◌+◌, ◌*◌, ◌<◌, ◌≤◌, ◌^◌, Bool, if◌then◌else◌, List, ◌++◌, length}
use Rattle.std.specs.List.{flat_map, AllByRecursion}
use Rattle.wire_base.specs.Numbers.{u16_bytes}
use Rattle.avp_codec.specs.declared.avp.Avp.{Avp}

-- a bit by its worth
abbrev pub bit : Bool → ℕ → ℕ
bit b worth = if b then worth else 0

-- two flags, four reserved bits, and the length in ten bits, which counts the six bytes of the head
abbrev pub word_of : Avp → ℕ
word_of a = bit a.mandatory 32768 + bit a.hidden 16384 + 1024 * a.reserved + (6 + length a.value)

abbrev pub spelling_of : Avp → List ℕ
spelling_of a = u16_bytes (word_of a) ++ u16_bytes a.vendor ++ u16_bytes a.attribute ++ a.value

abbrev pub spelling : List Avp → List ℕ
spelling avps = flat_map spelling_of avps

-- what has a spelling
pub record Fits (a : Avp) : Type 0 where
  pub reserved : a.reserved < 16
  pub vendor : a.vendor < 2 ^ 16
  pub attribute : a.attribute < 2 ^ 16
  pub value : length a.value ≤ 1017

abbrev pub AreAvps : List Avp → Type 0
AreAvps avps = AllByRecursion Fits avps
