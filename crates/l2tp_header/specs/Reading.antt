-- Reading a header, with the first fault.
use Rattle.std.specs.Prelude.{ℕ, ◌+◌, ◌-◌, not, ◌&&◌, ◌||◌, if◌then◌else◌, nat_lt, ◌==◌, Option, Some, None, List, length, take, drop, Result, Ok, Err}
use Rattle.byteorder.specs.Endian.{big_number}
use Rattle.wire_base.specs.Answers.{◌>>=◌}
use Rattle.l2tp_header.specs.declared.header.Header.{Header}
use Rattle.l2tp_header.specs.declared.header.HeaderError.{HeaderError}
use Rattle.l2tp_header.specs.declared.header.HeaderError.TheVariants.{Short, Version, ControlFlags, Length}
use Rattle.l2tp_header.specs.Flags.{is_control, has_length, has_numbers, has_offset, version_of, are_control_flags}

-- the number in the two bytes from a place
abbrev pub word_at : List ℕ → ℕ → ℕ
word_at bytes at = big_number 2 (drop at bytes)

-- the first word, where it is that of a header
unfoldable pub word_of : List ℕ → Result ℕ HeaderError
word_of bytes =
    let word = word_at bytes 0 in
    if nat_lt (length bytes) 2 then Err Short
    else if not (version_of word == 2) then Err (Version (version_of word))
    else if is_control word && not (are_control_flags word) then Err (ControlFlags word)
    else Ok word

-- where the fields stand that the flags name
abbrev pub tunnel_at : ℕ → ℕ
tunnel_at word = if has_length word then 4 else 2

abbrev pub numbers_at : ℕ → ℕ
numbers_at word = tunnel_at word + 4

abbrev pub offset_at : ℕ → ℕ
offset_at word = if has_numbers word then numbers_at word + 4 else numbers_at word

-- how many bytes the fields have, but those of the offset
abbrev pub fields_end : ℕ → ℕ
fields_end word = if has_offset word then offset_at word + 2 else offset_at word

-- where the body starts, if the fields were there
abbrev pub body_at : ℕ → List ℕ → ℕ
body_at word bytes = if has_offset word then fields_end word + word_at bytes (offset_at word) else fields_end word

-- where the body starts
unfoldable pub start_of : ℕ → List ℕ → Result ℕ HeaderError
start_of word bytes =
    if nat_lt (length bytes) (fields_end word) then Err Short
    else if nat_lt (length bytes) (body_at word bytes) then Err Short
    else Ok (body_at word bytes)

-- where the body ends, behind its start
unfoldable pub end_of : ℕ → ℕ → List ℕ → Result ℕ HeaderError
end_of word start bytes =
    if has_length word
    then (if nat_lt (word_at bytes 2) start || nat_lt (length bytes) (word_at bytes 2) then Err (Length (word_at bytes 2) (length bytes)) else Ok (word_at bytes 2))
    else Ok (length bytes)

-- a number that stands there only where S is set
abbrev pub number_at : ℕ → ℕ → List ℕ → Option ℕ
number_at word at bytes = if has_numbers word then Some (word_at bytes at) else None

unfoldable pub header_with : ℕ → ℕ → ℕ → List ℕ → Header
header_with word start stop bytes =
    record {
      control = is_control word;
      tunnel = word_at bytes (tunnel_at word);
      session = word_at bytes (tunnel_at word + 2);
      ns = number_at word (numbers_at word) bytes;
      nr = number_at word (numbers_at word + 2) bytes;
      start = start;
      end = stop;
    }

unfoldable pub header_of : List ℕ → Result Header HeaderError
header_of bytes =
    word_of bytes >>= λ word. start_of word bytes >>= λ start. end_of word start bytes >>= λ stop. Ok (header_with word start stop bytes)

-- the bytes of the body
abbrev pub body_of : List ℕ → Header → List ℕ
body_of bytes h = take (h.end - h.start) (drop h.start bytes)
