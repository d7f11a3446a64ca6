-- The one spelling of each frame and of each list of tags (RFC 2516 section 4 and appendix A).
use Rattle.std.specs.Prelude.{◌≡◌, ◌≢◌, ℕ, ◌+◌, ◌<◌, ◌≤◌, ◌^◌, Bool, if◌then◌else◌, List, [], ◌∷◌, ◌++◌, length}
use Rattle.std.specs.List.{flat_map, AllByRecursion}
use Rattle.wire_base.specs.Numbers.{u16_bytes}
use Rattle.pppoe_wire.specs.declared.frame.Pppoe.{Pppoe}
use Rattle.pppoe_wire.specs.declared.frame.Tag.{Tag}

-- ---- frames

-- the fields of a head, in their order: both addresses, the ethertype, VER and TYPE in one byte, CODE, SESSION_ID, LENGTH
pub record Head : Type 0 where
  pub dst : List ℕ
  pub src : List ℕ
  pub ethertype : ℕ
  pub version : ℕ
  pub code : ℕ
  pub session : ℕ
  pub said : ℕ

unfoldable pub head_bytes : Head → List ℕ
head_bytes h = h.dst ++ h.src ++ u16_bytes h.ethertype ++ (h.version ∷ h.code ∷ []) ++ u16_bytes h.session ++ u16_bytes h.said

pub record FitsHead (h : Head) : Type 0 where
  pub dst : length h.dst ≡ 6
  pub src : length h.src ≡ 6
  pub ethertype : h.ethertype < 2 ^ 16
  pub session : h.session < 2 ^ 16
  pub said : h.said < 2 ^ 16

-- the ethertypes of the session stage and of discovery
abbrev pub ethertype_of : Bool → ℕ
ethertype_of session_stage = if session_stage then 0x8864 else 0x8863

-- VER and TYPE are 1 each; LENGTH counts the payload
abbrev pub head_of : Pppoe → Head
head_of f =
    record {
      dst = f.dst;
      src = f.src;
      ethertype = ethertype_of f.session_stage;
      version = 0x11;
      code = f.code;
      session = f.session;
      said = length f.payload;
    }

abbrev pub frame_bytes : Pppoe → List ℕ
frame_bytes f = head_bytes (head_of f) ++ f.payload

-- what has a spelling: the payload's bounds are those of the spelling
pub record FitsFrame (f : Pppoe) : Type 0 where
  pub dst : length f.dst ≡ 6
  pub src : length f.src ≡ 6
  pub session : f.session < 2 ^ 16
  pub payload : length f.payload ≤ 65535
  pub starts : f.start ≡ 20
  pub ends : f.end ≡ 20 + length f.payload

-- ---- tags

-- TAG_TYPE, TAG_LENGTH, which counts the value alone, and TAG_VALUE
abbrev pub tag_bytes : ℕ → List ℕ → List ℕ
tag_bytes kind value = u16_bytes kind ++ u16_bytes (length value) ++ value

abbrev pub spelling_of : Tag → List ℕ
spelling_of t = tag_bytes t.kind t.value

abbrev pub spelling : List Tag → List ℕ
spelling tags = flat_map spelling_of tags

-- what has a spelling: a tag of type 0000 is the end of a list
pub record FitsTag (t : Tag) : Type 0 where
  pub kind : t.kind < 2 ^ 16
  pub other : t.kind ≢ 0
  pub value : length t.value ≤ 65535

abbrev pub AreTags : List Tag → Type 0
AreTags tags = AllByRecursion FitsTag tags
