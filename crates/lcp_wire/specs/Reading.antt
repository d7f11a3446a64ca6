-- Reading a packet, and reading options from the front, with the first fault.
use Rattle.std.specs.Prelude.{◌≡◌, ℕ, suc, ◌+◌, ◌-◌, ◌||◌, List, [], ◌∷◌, length, slice_index_or, take, drop, Result, Ok, Err, nat_lt, if◌then◌else◌}
use Rattle.byteorder.specs.Endian.{big_number}
use Rattle.wire_base.specs.Answers.{◌>>=◌}
use Rattle.lcp_wire.specs.declared.packet.Lcp.{Lcp}
use Rattle.lcp_wire.specs.declared.packet.LcpOption.{LcpOption}
use Rattle.lcp_wire.specs.declared.error.LcpError.{LcpError}
use Rattle.lcp_wire.specs.declared.error.LcpError.TheVariants as packet_errors
use Rattle.lcp_wire.specs.declared.error.OptionError.{OptionError}
use Rattle.lcp_wire.specs.declared.error.OptionError.TheVariants as option_errors

-- ---- packets

-- what a call that failed tells of the reading: nothing where memory was wanting
abbrev pub Told : {Y : Type 0} → LcpError → Result Y LcpError → Type 0
Told packet_errors.NoMemory read = Unit {0}
Told e read = read ≡ Err e

-- the length that the head tells
abbrev pub length_told : List ℕ → ℕ
length_told bytes = big_number 2 (drop 2 bytes)

-- the packet at the front, where all of it is there
abbrev pub front_of : List ℕ → Lcp
front_of bytes =
    record {
      code = slice_index_or bytes 0 0;
      id = slice_index_or bytes 1 0;
      body = take (length_told bytes - 4) (drop 4 bytes);
    }

unfoldable pub packet_of : List ℕ → Result Lcp LcpError
packet_of bytes =
    if nat_lt (length bytes) 4 then Err packet_errors.Short
    else if nat_lt (length_told bytes) 4 || nat_lt (length bytes) (length_told bytes) then Err (packet_errors.Length (length_told bytes) (length bytes))
    else Ok (front_of bytes)

-- ---- options

abbrev pub ToldOption : {Y : Type 0} → OptionError → Result Y OptionError → Type 0
ToldOption option_errors.NoMemory read = Unit {0}
ToldOption e read = read ≡ Err e

-- the options from a place to the end, where there are no more than a bound
unfoldable pub options_at : ℕ → ℕ → List ℕ → Result (List LcpOption) OptionError
options_at n at [] = Ok []
options_at (suc n) at (kind ∷ len ∷ rest) =
    if nat_lt len 2 || nat_lt (length rest) (len - 2) then Err (option_errors.OptionLength at)
    else (options_at n (at + len) (drop (len - 2) rest) >>= λ others. Ok (record { kind = kind; value = take (len - 2) rest } ∷ others))
options_at n at bytes = Err (option_errors.OptionLength at)

-- all of the bytes; each option takes a byte at least
abbrev pub options_of : List ℕ → Result (List LcpOption) OptionError
options_of bytes = options_at (length bytes) 0 bytes
