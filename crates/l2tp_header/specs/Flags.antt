-- The first word of a header (RFC 2661 section 3.1).
use Rattle.std.specs.Prelude.{ℕ, Bool, not, ◌&&◌, bit_and, ◌==◌}

-- whether the word has the flag
abbrev pub has : ℕ → ℕ → Bool
has word flag = not (bit_and word flag == 0)

-- T: the body is a control message
unfoldable pub is_control : ℕ → Bool
is_control word = has word 0x8000

-- L: there is a length
unfoldable pub has_length : ℕ → Bool
has_length word = has word 0x4000

-- S: there are sequence numbers
unfoldable pub has_numbers : ℕ → Bool
has_numbers word = has word 0x0800

-- O: there is an offset
unfoldable pub has_offset : ℕ → Bool
has_offset word = has word 0x0200

-- P: the message is urgent
unfoldable pub has_priority : ℕ → Bool
has_priority word = has word 0x0100

unfoldable pub version_of : ℕ → ℕ
version_of word = bit_and word 0x000f

-- a control message has L and S, and neither O nor P
abbrev pub are_control_flags : ℕ → Bool
are_control_flags word = has_length word && has_numbers word && not (has_offset word) && not (has_priority word)
