-- What cipher text hides (RFC 2661 section 4.3), by the plain text that it is made of.
use Rattle.std.specs.Prelude.{◌≡◌, ℕ, ◌<◌, ◌^◌, ◌⊎◌, List, ◌++◌, length}
use Rattle.wire_base.specs.Numbers.{u16_bytes}
use Rattle.tunnel_secret.specs.declared.error.UnhideError.{UnhideError}
use Rattle.tunnel_secret.specs.declared.error.UnhideError.TheVariants.{BadLength, NoMemory}
use Rattle.tunnel_secret.specs.Hiding.{ciphered}

-- the plain text is the length of the value, the value, and padding of any kind
pub record HoldsValue (value plain : List ℕ) : Type 0 where
  pub padding : List ℕ
  pub fits : length value < 2 ^ 16
  pub parts : plain ≡ u16_bytes (length value) ++ value ++ padding

-- the plain text says a length that what stands behind it doesn't have
pub record EndsEarly (plain : List ℕ) (said have : ℕ) : Type 0 where
  pub behind : List ℕ
  pub fits : said < 2 ^ 16
  pub parts : plain ≡ u16_bytes said ++ behind
  pub total : have ≡ length behind
  pub wrong : length behind < said

-- or it has no length
abbrev pub HasBadLength : List ℕ → ℕ → ℕ → Type 0
HasBadLength plain said have = ((length plain < 2) × (said ≡ 0) × (have ≡ 0)) ⊎ EndsEarly plain said have

-- the cipher text is made of a plain text that holds the value
pub record Hides (attribute : ℕ) (secret vector value cipher : List ℕ) : Type 0 where
  pub plain : List ℕ
  pub made : cipher ≡ ciphered attribute secret vector plain
  pub holds : HoldsValue value plain

-- it is made of one that holds none
pub record HidesNone (attribute : ℕ) (secret vector cipher : List ℕ) (said have : ℕ) : Type 0 where
  pub plain : List ℕ
  pub made : cipher ≡ ciphered attribute secret vector plain
  pub bad : HasBadLength plain said have

-- what is wrong with a plain text, or with cipher text; want of memory tells nothing of it
abbrev pub IsPlainFault : List ℕ → UnhideError → Type 0
IsPlainFault plain (BadLength said have) = HasBadLength plain said have
IsPlainFault plain NoMemory = Unit {0}

abbrev pub IsFault : ℕ → List ℕ → List ℕ → List ℕ → UnhideError → Type 0
IsFault attribute secret vector cipher (BadLength said have) = HidesNone attribute secret vector cipher said have
IsFault attribute secret vector cipher NoMemory = Unit {0}
