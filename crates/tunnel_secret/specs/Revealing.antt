-- What is revealed of a hidden value (RFC 2661 section 4.3).
use Rattle.std.specs.Prelude.{◌≡◌, ℕ, nat_lt, if◌then◌else◌, List, length, take, drop, Result, Ok, Err}
use Rattle.wire_base.specs.declared.numbers.Short.{Short}
use Rattle.wire_base.specs.Numbers.{number_at}
use Rattle.tunnel_secret.specs.declared.error.UnhideError.{UnhideError}
use Rattle.tunnel_secret.specs.declared.error.UnhideError.TheVariants.{BadLength, NoMemory}
use Rattle.tunnel_secret.specs.declared.hiding.Direction.TheVariants.{Unhide}
use Rattle.tunnel_secret.specs.Hiding.{first_mask, text_of}

-- what a call that failed tells of the value: nothing where memory was wanting
abbrev pub Told : {Y : Type 0} → UnhideError → Result Y UnhideError → Type 0
Told NoMemory read = Unit {0}
Told e read = read ≡ Err e

-- so many bytes of what stands behind the original length
abbrev pub part_of : ℕ → List ℕ → Result (List ℕ) UnhideError
part_of said behind =
    if nat_lt (length behind) said then Err (BadLength said (length behind)) else Ok (take said behind)

-- the value, by the original length, where it is there
abbrev pub value_by : Result ℕ Short → List ℕ → Result (List ℕ) UnhideError
value_by (Err short) plain = Err (BadLength 0 0)
value_by (Ok said) plain = part_of said (drop 2 plain)

-- the value in a plain text
abbrev pub value_of : List ℕ → Result (List ℕ) UnhideError
value_of plain = value_by (number_at 2 plain 0) plain

-- the value that was hidden
abbrev pub unhidden : ℕ → List ℕ → List ℕ → List ℕ → Result (List ℕ) UnhideError
unhidden attribute secret vector cipher = value_of (text_of Unhide secret (first_mask attribute secret vector) cipher)
