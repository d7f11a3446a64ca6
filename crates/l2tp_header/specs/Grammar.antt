-- Which bytes have which header (RFC 2661 section 3.1).
use Rattle.std.specs.Prelude.{◌≡◌, ℕ, ◌<◌, ◌≤◌, ◌^◌, IsTrue, Option, Some, None, is_some, option_map, List, [], ◌++◌, length}
use Rattle.wire_base.specs.Numbers.{u16_bytes}
use Rattle.l2tp_header.specs.declared.header.Header.{Header}
use Rattle.l2tp_header.specs.Flags.{is_control, has_length, has_numbers, has_offset, version_of, are_control_flags}

-- ---- the fields

-- the fields of a header, in their order; some are there only where the flags of the word name them
pub record Fields : Type 0 where
  pub word : ℕ
  pub said : Option ℕ
  pub tunnel : ℕ
  pub session : ℕ
  pub numbers : Option (ℕ × ℕ)
  pub padding : Option (List ℕ)

-- the length of the message
abbrev pub length_bytes : Option ℕ → List ℕ
length_bytes None = []
length_bytes (Some said) = u16_bytes said

-- Ns and Nr
abbrev pub numbers_bytes : Option (ℕ × ℕ) → List ℕ
numbers_bytes None = []
numbers_bytes (Some numbers) = u16_bytes numbers.0 ++ u16_bytes numbers.1

-- the size of the offset, and that many bytes of any kind
abbrev pub offset_bytes : Option (List ℕ) → List ℕ
offset_bytes None = []
offset_bytes (Some padding) = u16_bytes (length padding) ++ padding

abbrev pub fields_bytes : Fields → List ℕ
fields_bytes f = u16_bytes f.word ++ length_bytes f.said ++ u16_bytes f.tunnel ++ u16_bytes f.session ++ numbers_bytes f.numbers ++ offset_bytes f.padding

-- a field that is there has a value of two bytes
abbrev pub FitsWord : Option ℕ → Type 0
FitsWord None = Unit {0}
FitsWord (Some n) = n < 2 ^ 16

abbrev pub FitNumbers : Option (ℕ × ℕ) → Type 0
FitNumbers None = Unit {0}
FitNumbers (Some numbers) = (numbers.0 < 2 ^ 16) × (numbers.1 < 2 ^ 16)

abbrev pub FitsOffset : Option (List ℕ) → Type 0
FitsOffset None = Unit {0}
FitsOffset (Some padding) = length padding < 2 ^ 16

-- the fields that the word names, and no others
pub record AreFields (f : Fields) : Type 0 where
  pub word : f.word < 2 ^ 16
  pub tunnel : f.tunnel < 2 ^ 16
  pub session : f.session < 2 ^ 16
  pub length_fits : FitsWord f.said
  pub numbers_fit : FitNumbers f.numbers
  pub offset_fits : FitsOffset f.padding
  pub length_named : is_some f.said ≡ has_length f.word
  pub numbers_named : is_some f.numbers ≡ has_numbers f.word
  pub offset_named : is_some f.padding ≡ has_offset f.word

-- the fields stand at the front of the bytes
pub record HasFields (bytes : List ℕ) (f : Fields) : Type 0 where
  pub are : AreFields f
  pub behind : List ℕ
  pub parts : bytes ≡ fields_bytes f ++ behind

-- ---- headers

-- a word of version 2, where a control message has L and S and neither O nor P
pub record IsWord (word : ℕ) : Type 0 where
  pub version : version_of word ≡ 2
  pub flags : IsTrue (is_control word) → IsTrue (are_control_flags word)

-- the body ends where the length says, which counts the header too, or with the datagram where there is none
abbrev pub EndsAt : Option ℕ → ℕ → ℕ → ℕ → Type 0
EndsAt None start total stop = stop ≡ total
EndsAt (Some said) start total stop = (stop ≡ said) × (start ≤ said) × (said ≤ total)

-- the bytes have the header
pub record IsHeader (bytes : List ℕ) (h : Header) : Type 0 where
  pub fields : Fields
  pub has : HasFields bytes fields
  pub word : IsWord fields.word
  pub control : h.control ≡ is_control fields.word
  pub tunnel : h.tunnel ≡ fields.tunnel
  pub session : h.session ≡ fields.session
  pub ns : h.ns ≡ option_map (λ n. n.0) fields.numbers
  pub nr : h.nr ≡ option_map (λ n. n.1) fields.numbers
  pub starts : h.start ≡ length (fields_bytes fields)
  pub ends : EndsAt fields.said h.start (length bytes) h.end
