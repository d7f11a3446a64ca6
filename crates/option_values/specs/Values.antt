-- What the values of options spell.
use Rattle.std.specs.Prelude.{ℕ, ◌^◌, ◌==◌, Bool, true, false, ◌&&◌, ◌||◌, not, List, [], ◌∷◌, length, Option, Some, None, option_and_then, option_map, is_some, codes, nat_le, nat_lt, if◌then◌else◌}
use Rattle.std.specs.Char.{is_ascii_digit}
use Rattle.std.specs.List.{list_all}
use Rattle.std.specs.Str.{bytes_eq}
use Rattle.std.specs.Str.Parse.{digits_value}
use Rattle.std.specs.Net.Reader.{read_ipv4}
use Rattle.std.specs.Int.{from_be_bytes}
use mir.Syntax.{w32}

infixl 10 ◌>>=◌
abbrev pub ◌>>=◌ : {A B : Type 0} → Option A → (A → Option B) → Option B
o >>= f = option_and_then f o

-- a byte, and no leading zero
abbrev pub begins_well : List ℕ → Bool
begins_well [] = false
begins_well (c ∷ []) = true
begins_well (c ∷ d ∷ ds) = not (c == 48)

-- digits alone, and no leading zero
abbrev pub is_plain : List ℕ → Bool
is_plain word = begins_well word && list_all is_ascii_digit word

-- the number that a word spells in decimal, without sign or leading zero, where it fits 64 bits
unfoldable pub numeral_of : List ℕ → Option ℕ
numeral_of word =
    if is_plain word && nat_lt (digits_value 10 word) (2 ^ 64) then Some (digits_value 10 word) else None

-- the number, where it is between two bounds
unfoldable pub number_of : ℕ → ℕ → List ℕ → Option ℕ
number_of least most word = numeral_of word >>= λ n. if nat_lt n least || nat_lt most n then None else Some n

-- the number, or another one where there is no word
abbrev pub number_or : ℕ → ℕ → ℕ → Option (List ℕ) → Option ℕ
number_or otherwise least most None = Some otherwise
number_or otherwise least most (Some word) = number_of least most word

-- the number of four octets, the first one highest, where nothing stands behind them
abbrev pub alone : List ℕ × List ℕ → Option ℕ
alone (octets, []) = Some (from_be_bytes w32 octets)
alone (octets, c ∷ cs) = None

-- the address that a word spells: four decimal numbers below 256 without leading zeros, and dots between them
unfoldable pub address_of : List ℕ → Option ℕ
address_of word = read_ipv4 word >>= alone

-- whether a role is that of a LAC
abbrev pub role_of : List ℕ → Option Bool
role_of word = if bytes_eq word (codes "lac") then Some true else if bytes_eq word (codes "lns") then Some false else None

-- the address of the peer, which a LAC must have
abbrev pub peer_of : Bool → Option (List ℕ) → Option (Option ℕ)
peer_of true None = None
peer_of false None = Some None
peer_of lac (Some word) = option_map (λ n. Some n) (address_of word)

-- the number of workers, which only a pool is asked for
abbrev pub workers_of : Bool → Option (List ℕ) → Option ℕ
workers_of pool word = if not pool && is_some word then None else number_or 4 1 64 word

-- a secret of 1 to 64 bytes
abbrev pub secret_of : Option (List ℕ) → Option (Option (List ℕ))
secret_of None = Some None
secret_of (Some word) = if nat_lt 0 (length word) && nat_le (length word) 64 then Some (Some word) else None
