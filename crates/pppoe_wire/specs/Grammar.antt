-- Which bytes have which frame or tags, and what is wrong with bytes that have none (RFC 2516 section 4 and appendix A).
use Rattle.std.specs.Prelude.{◌≡◌, ◌≢◌, ℕ, ◌<◌, ◌≤◌, ◌^◌, ◌⊎◌, Option, Some, None, List, [], ◌++◌, length, drop}
use Rattle.wire_base.specs.Numbers.{u16_bytes}
use Rattle.pppoe_wire.specs.declared.frame.Pppoe.{Pppoe}
use Rattle.pppoe_wire.specs.declared.frame.Tag.{Tag}
use Rattle.pppoe_wire.specs.declared.error.PppoeError.{PppoeError}
use Rattle.pppoe_wire.specs.declared.error.PppoeError.TheVariants as frame_errors
use Rattle.pppoe_wire.specs.declared.error.TagError.{TagError}
use Rattle.pppoe_wire.specs.declared.error.TagError.TheVariants as tag_errors
use Rattle.pppoe_wire.specs.Spelling.{Head, head_bytes, FitsHead, frame_bytes, FitsFrame, spelling_of, spelling, FitsTag, AreTags}

-- ---- frames

-- the frame, and padding behind it of any kind
pub record HasFrame (bytes : List ℕ) (f : Pppoe) : Type 0 where
  pub fits : FitsFrame f
  pub padding : List ℕ
  pub parts : bytes ≡ frame_bytes f ++ padding

-- a head, and what is behind it
pub record HasHead (bytes : List ℕ) (h : Head) (behind : List ℕ) : Type 0 where
  pub fits : FitsHead h
  pub parts : bytes ≡ head_bytes h ++ behind

abbrev pub IsEthertype : ℕ → Type 0
IsEthertype n = (n ≡ 0x8863) ⊎ (n ≡ 0x8864)

-- what is seen of a head that isn't PPPoE's: nothing under another ethertype, else VER and TYPE that aren't 1 each
abbrev pub SeesOther : Head → ℕ → Type 0
SeesOther h seen = ((¬ (IsEthertype h.ethertype)) × (seen ≡ 0)) ⊎ (IsEthertype h.ethertype × (h.version ≢ 0x11) × (seen ≡ h.version))

pub record HasOtherVersion (bytes : List ℕ) (seen : ℕ) : Type 0 where
  pub head : Head
  pub behind : List ℕ
  pub has : HasHead bytes head behind
  pub wrong : SeesOther head seen

-- a head of PPPoE whose length passes the end
pub record HasOtherLength (bytes : List ℕ) (said have : ℕ) : Type 0 where
  pub head : Head
  pub behind : List ℕ
  pub has : HasHead bytes head behind
  pub ethertype : IsEthertype head.ethertype
  pub version : head.version ≡ 0x11
  pub tells : said ≡ head.said
  pub total : have ≡ length behind
  pub wrong : have < said

-- the first fault; want of memory is no fault of the bytes
abbrev pub IsFault : List ℕ → PppoeError → Type 0
IsFault bytes frame_errors.Short = length bytes < 20
IsFault bytes (frame_errors.VerType seen) = HasOtherVersion bytes seen
IsFault bytes (frame_errors.Length said have) = HasOtherLength bytes said have
IsFault bytes frame_errors.NoMemory = ⊥

-- the fault that was told, if one was
abbrev pub IsFirstFault : List ℕ → PppoeError → Type 0
IsFirstFault bytes frame_errors.NoMemory = Unit {0}
IsFirstFault bytes e = IsFault bytes e

-- ---- tags

-- the head of an End-Of-List; its length is of any value, and what follows of any kind
pub record IsEndOfList (bytes : List ℕ) : Type 0 where
  pub behind : List ℕ
  pub head : 2 ≤ length behind
  pub parts : bytes ≡ u16_bytes 0 ++ behind

-- no bytes, or End-Of-List
abbrev pub EndsTags : List ℕ → Type 0
EndsTags bytes = (bytes ≡ []) ⊎ IsEndOfList bytes

-- the tags, to the end of the bytes or to an End-Of-List
pub record HasTags (bytes : List ℕ) (tags : List Tag) : Type 0 where
  pub are : AreTags tags
  pub rest : List ℕ
  pub parts : bytes ≡ spelling tags ++ rest
  pub ends : EndsTags rest

-- a head of another tag, whose length passes the end
pub record PassesEnd (bytes : List ℕ) : Type 0 where
  pub kind : ℕ
  pub said : ℕ
  pub behind : List ℕ
  pub kind_fits : kind < 2 ^ 16
  pub said_fits : said < 2 ^ 16
  pub parts : bytes ≡ u16_bytes kind ++ u16_bytes said ++ behind
  pub other : kind ≢ 0
  pub wrong : length behind < said

-- some bytes and no whole head, or a length that passes the end
abbrev pub LacksTag : List ℕ → Type 0
LacksTag bytes = ((0 < length bytes) × (length bytes < 4)) ⊎ PassesEnd bytes

-- whole tags stand before the place, and none at it
pub record IsTagFault (bytes : List ℕ) (at : ℕ) : Type 0 where
  pub before : List Tag
  pub rest : List ℕ
  pub whole : AreTags before
  pub parts : bytes ≡ spelling before ++ rest
  pub place : at ≡ length (spelling before)
  pub wrong : LacksTag rest

-- the fault that was told, if one was
abbrev pub IsFirstTagFault : List ℕ → TagError → Type 0
IsFirstTagFault bytes (tag_errors.TagPastEnd at) = IsTagFault bytes at
IsFirstTagFault bytes tag_errors.NoMemory = Unit {0}

-- ---- one tag

-- a tag of as many bytes stands at the front
pub record BeginsWith (bytes : List ℕ) (t : Tag) (n : ℕ) : Type 0 where
  pub fits : FitsTag t
  pub size : n ≡ length (spelling_of t)
  pub parts : bytes ≡ spelling_of t ++ drop n bytes

-- what stands at the front
abbrev pub Fronts : List ℕ → Option (Tag × ℕ) → Type 0
Fronts bytes None = EndsTags bytes
Fronts bytes (Some x) = BeginsWith bytes x.0 x.1

-- the fault that was told of a place, if one was
abbrev pub LacksAt : List ℕ → ℕ → TagError → Type 0
LacksAt bytes at (tag_errors.TagPastEnd told) = (told ≡ at) × LacksTag bytes
LacksAt bytes at tag_errors.NoMemory = Unit {0}
