-- What is wrong with a datagram's header, and that nothing that is looked at before is (RFC 2661 section 3.1).
use Rattle.std.specs.Prelude.{◌≡◌, ◌≢◌, ℕ, ◌<◌, ◌^◌, ◌⊎◌, IsTrue, Some, List, ◌++◌, length}
use Rattle.wire_base.specs.Numbers.{u16_bytes}
use Rattle.l2tp_header.specs.declared.header.HeaderError.{HeaderError}
use Rattle.l2tp_header.specs.declared.header.HeaderError.TheVariants.{Short, Version, ControlFlags, Length}
use Rattle.l2tp_header.specs.Flags.{is_control, version_of, are_control_flags}
use Rattle.l2tp_header.specs.Grammar.{Fields, fields_bytes, HasFields, IsWord}

-- the word stands at the front of the bytes
pub record BeginsWith (bytes : List ℕ) (word : ℕ) : Type 0 where
  pub fits : word < 2 ^ 16
  pub behind : List ℕ
  pub parts : bytes ≡ u16_bytes word ++ behind

-- a word that is right, and not all the fields that it names
pub record LacksFields (bytes : List ℕ) : Type 0 where
  pub word : ℕ
  pub begins : BeginsWith bytes word
  pub right : IsWord word
  pub wrong : (f : Fields) → f.word ≡ word → ¬ (HasFields bytes f)

abbrev pub IsShort : List ℕ → Type 0
IsShort bytes = (length bytes < 2) ⊎ LacksFields bytes

-- a word of another version
pub record IsOtherVersion (bytes : List ℕ) (seen : ℕ) : Type 0 where
  pub word : ℕ
  pub begins : BeginsWith bytes word
  pub version : version_of word ≡ seen
  pub wrong : seen ≢ 2

-- the word of a control message, with flags that such a message doesn't have
pub record HasOtherFlags (bytes : List ℕ) (word : ℕ) : Type 0 where
  pub begins : BeginsWith bytes word
  pub version : version_of word ≡ 2
  pub control : IsTrue (is_control word)
  pub wrong : ¬ (IsTrue (are_control_flags word))

-- all that the word names, and a length that ends before the body starts, or behind the bytes
pub record HasOtherLength (bytes : List ℕ) (said have : ℕ) : Type 0 where
  pub fields : Fields
  pub has : HasFields bytes fields
  pub right : IsWord fields.word
  pub tells : fields.said ≡ Some said
  pub total : have ≡ length bytes
  pub wrong : (said < length (fields_bytes fields)) ⊎ (have < said)

-- the first fault
abbrev pub IsFault : List ℕ → HeaderError → Type 0
IsFault bytes Short = IsShort bytes
IsFault bytes (Version seen) = IsOtherVersion bytes seen
IsFault bytes (ControlFlags word) = HasOtherFlags bytes word
IsFault bytes (Length said have) = HasOtherLength bytes said have
