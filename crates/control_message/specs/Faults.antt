-- What is wrong with a list of pairs, and that it is the first fault: a relation apart from the reader.
use Rattle.std.specs.Prelude.{◌≡◌, ◌≢◌, ℕ, ◌≤◌, ◌⊎◌, true, false, List, [], ◌∷◌, ◌++◌, length, Some, None, ⊤}
use Rattle.std.specs.List.{AllByRecursion}
use Rattle.byteorder.specs.Endian.{big_number}
use Rattle.avp_codec.specs.declared.avp.Avp.{Avp}
use Rattle.control_message.specs.declared.kind.Kinds.{Kinds}
use Rattle.control_message.specs.declared.kind.Kind.{Kind}
use Rattle.control_message.specs.declared.kind.Shape.{Shape}
use Rattle.control_message.specs.declared.kind.Shape.TheVariants.{Text, Short, Nonzero, Long, ShortLong, ShortShortShort, ShortLongLong, Sixteen, ResultCode}
use Rattle.control_message.specs.declared.message.MessageError.{MessageError}
use Rattle.control_message.specs.declared.message.MessageError.TheVariants.{NoType, UnknownType, UnknownMandatory, HiddenWithoutVector, BadValue, Missing, NoMemory}
use Rattle.control_message.specs.Table.{kind_of, shape_of, uses_draw, needs_of}
use Rattle.control_message.specs.Grammar.{IsAt, IsRecognised, IsFirstWith, StandsFirst, IsAbsent, IsDraw, HasNoDraw, HasNumber}

-- ---- the type

-- there is no Message Type, or the first one is hidden or hasn't two bytes
abbrev pub HasNoType : List Avp → Type 0
HasNoType avps = IsAbsent 0 avps ⊎ ((a : Avp) × StandsFirst 0 a avps × ((a.hidden ≡ true) ⊎ (length a.value ≢ 2)))

-- the first Message Type is a number that names no kind that the reader knows, and mandatory
pub record HasUnknownType (kinds : Kinds) (avps : List Avp) (n : ℕ) : Type 0 where
  pub pair : Avp
  pub first : StandsFirst 0 pair avps
  pub plain : pair.hidden ≡ false
  pub wide : length pair.value ≡ 2
  pub number : big_number 2 pair.value ≡ n
  pub unknown : kind_of kinds n ≡ None
  pub mandatory : pair.mandatory ≡ true

-- the kind that the Message Type names
pub record IsOfKind (kinds : Kinds) (avps : List Avp) (k : Kind) : Type 0 where
  pub number : ℕ
  pub has : HasNumber 0 2 number avps
  pub names : kind_of kinds number ≡ Some k

-- ---- along the list

abbrev pub HasShape : Shape → List ℕ → Type 0
HasShape Text value = ⊤
HasShape Short value = length value ≡ 2
HasShape Nonzero value = (length value ≡ 2) × (big_number 2 value ≢ 0)
HasShape Long value = length value ≡ 4
HasShape ShortLong value = length value ≡ 6
HasShape ShortShortShort value = length value ≡ 6
HasShape ShortLongLong value = length value ≡ 10
HasShape Sixteen value = length value ≡ 16
HasShape ResultCode value = (length value ≡ 2) ⊎ (4 ≤ length value)

-- the first pair of an attribute that the message uses, or any Failover Session State
pub record IsUsed (k : Kind) (n : ℕ) (s : Shape) (before : List Avp) (a : Avp) : Type 0 where
  pub shape : shape_of k n ≡ Some s
  pub is : IsAt n a
  pub counts : IsAbsent n before ⊎ (n ≡ 79)

-- the first Draw Number, where the message uses it
pub record IsUsedDraw (k : Kind) (before : List Avp) (a : Avp) : Type 0 where
  pub used : uses_draw k ≡ true
  pub is : IsDraw a
  pub none : HasNoDraw before

-- a pair whose value counts, with its attribute and the shape that is wanted
abbrev pub IsValued : Kind → ℕ → Shape → List Avp → Avp → Type 0
IsValued k n s before a = IsUsed k n s before a ⊎ ((n ≡ 1) × (s ≡ Long) × IsUsedDraw k before a)

-- a Random Vector, which is never hidden (RFC 2661 section 4.3)
abbrev pub IsVector : Avp → Type 0
IsVector a = IsAt 36 a × (a.hidden ≡ false)

-- a Random Vector is there
abbrev pub HasVector : List Avp → Type 0
HasVector avps = (a : Avp) × IsFirstWith (λ b. IsVector b) a avps

-- none is there
abbrev pub HasNoVector : List Avp → Type 0
HasNoVector avps = AllByRecursion (λ a. ¬ IsVector a) avps

-- hidden behind a Random Vector, and not uncovered: there is no secret, or it hides no value
abbrev pub IsHiddenValue : List Avp → Avp → Type 0
IsHiddenValue before a = (a.hidden ≡ true) × HasVector before

-- plain, and of another shape than the message wants
abbrev pub IsWrongValue : Shape → Avp → Type 0
IsWrongValue s a = (a.hidden ≡ false) × (¬ HasShape s a.value)

-- the fault of a pair behind others
abbrev pub HasFault : Kind → List Avp → Avp → MessageError → Type 0
HasFault k before a (UnknownMandatory v n) = (¬ IsRecognised a) × (a.mandatory ≡ true) × (a.vendor ≡ v) × (a.attribute ≡ n)
HasFault k before a (HiddenWithoutVector n) = (s : Shape) × IsValued k n s before a × (a.hidden ≡ true) × HasNoVector before
HasFault k before a (BadValue n) = (s : Shape) × IsValued k n s before a × (IsHiddenValue before a ⊎ IsWrongValue s a)
HasFault k before a e = ⊥

-- no pair has a fault
abbrev pub IsSound : Kind → List Avp → Type 0
IsSound k avps = (before after : List Avp) (a : Avp) (e : MessageError) → avps ≡ before ++ a ∷ after → ¬ HasFault k before a e

-- the fault stands at a pair, and none before it
pub record IsFirstAlong (k : Kind) (avps : List Avp) (e : MessageError) : Type 0 where
  pub before : List Avp
  pub after : List Avp
  pub pair : Avp
  pub parts : avps ≡ before ++ pair ∷ after
  pub wrong : HasFault k before pair e
  pub sound : IsSound k before

-- ---- what isn't there

abbrev pub IsAmong : ℕ → List ℕ → Type 0
IsAmong n [] = ⊥
IsAmong n (m ∷ others) = (n ≡ m) ⊎ IsAmong n others

-- the least attribute that the message needs and that isn't there
pub record IsLeastMissing (k : Kind) (avps : List Avp) (n : ℕ) : Type 0 where
  pub needed : IsAmong n (needs_of k)
  pub absent : IsAbsent n avps
  pub least : (m : ℕ) → IsAmong m (needs_of k) → IsAbsent m avps → n ≤ m

-- ---- the first fault of a list

-- of a message whose kind is known
abbrev pub IsFaultOf : Kind → List Avp → MessageError → Type 0
IsFaultOf k avps (Missing n) = IsSound k avps × IsLeastMissing k avps n
IsFaultOf k avps e = IsFirstAlong k avps e

-- The type comes first, then the list from its front, then what isn't there. Want of memory is no fault of the pairs.
abbrev pub IsFault : Kinds → List Avp → MessageError → Type 0
IsFault kinds avps NoType = HasNoType avps
IsFault kinds avps (UnknownType n) = HasUnknownType kinds avps n
IsFault kinds avps NoMemory = ⊥
IsFault kinds avps e = (k : Kind) × IsOfKind kinds avps k × IsFaultOf k avps e

-- the fault that was told, if one was
abbrev pub IsToldFault : Kinds → List Avp → MessageError → Type 0
IsToldFault kinds avps NoMemory = ⊤
IsToldFault kinds avps e = IsFault kinds avps e
