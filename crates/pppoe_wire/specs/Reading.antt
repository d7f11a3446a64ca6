-- Reading a frame, and reading tags from the front, with the first fault.
use Rattle.std.specs.Prelude.{◌≡◌, ℕ, zero, suc, ◌+◌, Bool, not, ◌||◌, ◌==◌, List, [], ◌∷◌, length, slice_index_or, take, drop, Result, Ok, Err, nat_lt, if◌then◌else◌}
use Rattle.byteorder.specs.Endian.{big_number}
use Rattle.wire_base.specs.Answers.{◌>>=◌}
use Rattle.pppoe_wire.specs.declared.frame.Pppoe.{Pppoe}
use Rattle.pppoe_wire.specs.declared.frame.Tag.{Tag}
use Rattle.pppoe_wire.specs.declared.error.PppoeError.{PppoeError}
use Rattle.pppoe_wire.specs.declared.error.PppoeError.TheVariants as frame_errors
use Rattle.pppoe_wire.specs.declared.error.TagError.{TagError}
use Rattle.pppoe_wire.specs.declared.error.TagError.TheVariants as tag_errors
use Rattle.pppoe_wire.specs.Spelling.{Head}

-- ---- frames

-- what a call that failed tells of the reading: nothing where memory was wanting
abbrev pub Told : {Y : Type 0} → PppoeError → Result Y PppoeError → Type 0
Told frame_errors.NoMemory read = Unit {0}
Told e read = read ≡ Err e

-- the fields of the head, where all of it is there
abbrev pub head_at : List ℕ → Head
head_at bytes =
    record {
      dst = take 6 bytes;
      src = take 6 (drop 6 bytes);
      ethertype = big_number 2 (drop 12 bytes);
      version = slice_index_or bytes 14 0;
      code = slice_index_or bytes 15 0;
      session = big_number 2 (drop 16 bytes);
      said = big_number 2 (drop 18 bytes);
    }

abbrev pub is_pppoe : ℕ → Bool
is_pppoe ethertype = ethertype == 0x8863 || ethertype == 0x8864

-- the frame of a head and what is behind it, where all of its payload is there
abbrev pub front_of : Head → List ℕ → Pppoe
front_of h behind =
    record {
      dst = h.dst;
      src = h.src;
      session_stage = h.ethertype == 0x8864;
      code = h.code;
      session = h.session;
      start = 20;
      end = 20 + h.said;
      payload = take h.said behind;
    }

unfoldable pub frame_with : Head → List ℕ → Result Pppoe PppoeError
frame_with h behind =
    if not (is_pppoe h.ethertype) then Err (frame_errors.VerType 0)
    else if not (h.version == 0x11) then Err (frame_errors.VerType h.version)
    else if nat_lt (length behind) h.said then Err (frame_errors.Length h.said (length behind))
    else Ok (front_of h behind)

unfoldable pub frame_of : List ℕ → Result Pppoe PppoeError
frame_of bytes = if nat_lt (length bytes) 20 then Err frame_errors.Short else frame_with (head_at bytes) (drop 20 bytes)

-- ---- tags

abbrev pub ToldTag : {Y : Type 0} → TagError → Result Y TagError → Type 0
ToldTag tag_errors.NoMemory read = Unit {0}
ToldTag e read = read ≡ Err e

-- the type and the length that the head tells
abbrev pub kind_told : List ℕ → ℕ
kind_told bytes = big_number 2 bytes

abbrev pub length_told : List ℕ → ℕ
length_told bytes = big_number 2 (drop 2 bytes)

-- the tag at the front, where all of it is there
abbrev pub tag_of : List ℕ → Tag
tag_of bytes = record { kind = kind_told bytes; value = take (length_told bytes) (drop 4 bytes) }

-- the tags from a place on, where there are no more than a bound
unfoldable pub tags_at : ℕ → ℕ → List ℕ → Result (List Tag) TagError
tags_at zero at bytes = Ok []
tags_at (suc n) at bytes =
    if length bytes == 0 then Ok []
    else if nat_lt (length bytes) 4 then Err (tag_errors.TagPastEnd at)
    else if kind_told bytes == 0 then Ok []
    else if nat_lt (length bytes) (4 + length_told bytes) then Err (tag_errors.TagPastEnd at)
    else (tags_at n (at + (4 + length_told bytes)) (drop (4 + length_told bytes) bytes) >>= λ others. Ok (tag_of bytes ∷ others))

-- all of the bytes; each tag takes a byte at least
abbrev pub tags_of : List ℕ → Result (List Tag) TagError
tags_of bytes = tags_at (length bytes) 0 bytes
