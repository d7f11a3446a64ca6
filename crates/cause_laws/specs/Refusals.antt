-- Why discovery refuses a PADR (RFC 2516 sections 5.3, 5.4 and appendix A): what its tags ask for, apart from the function that reads them.
use Rattle.std.specs.Prelude.{◌≡◌, ◌⊎◌, ℕ, true, false, List, [], ◌∷◌, ◌++◌, codes, Ok}
use Rattle.std.specs.List.{AllByRecursion}
use Rattle.wire_base.specs.declared.cause.Cause.{Cause}
use Rattle.wire_base.specs.declared.cause.Cause.TheVariants as cause
use Rattle.pppoe_wire.specs.declared.frame.Pppoe.{Pppoe}
use Rattle.pppoe_wire.specs.declared.frame.Tag.{Tag}
use Rattle.pppoe_wire.specs.Reading.{frame_of, tags_of}
use Rattle.pppoe_discovery.specs.Cookie.{cookie_of}
use Rattle.pppoe_discovery.specs.Discovery.{is_for}

-- a PADR with these tags, from one host, to this address
pub record IsPadr (mac bytes src : List ℕ) (tags : List Tag) : Type 0 where
  pub frame : Pppoe
  pub reads : frame_of bytes ≡ Ok frame
  pub to : is_for mac frame ≡ true
  pub discovery : frame.session_stage ≡ false
  pub code : frame.code ≡ 0x19
  pub source : frame.src ≡ src
  pub reads_tags : tags_of frame.payload ≡ Ok tags

abbrev pub NoneIsOf : ℕ → List Tag → Type 0
NoneIsOf kind tags = AllByRecursion (λ (t : Tag). t.kind ≡ kind → ⊥) tags

-- the first tag of a kind
pub record IsFirst (kind : ℕ) (t : Tag) (tags : List Tag) : Type 0 where
  pub before : List Tag
  pub after : List Tag
  pub parts : tags ≡ before ++ t ∷ after
  pub is : t.kind ≡ kind
  pub none : NoneIsOf kind before

-- its one Service-Name (0101) has this value
pub record AsksFor (tags : List Tag) (name : List ℕ) : Type 0 where
  pub tag : Tag
  pub first : IsFirst 0x0101 tag tags
  pub alone : NoneIsOf 0x0101 first.after
  pub value : tag.value ≡ name

-- any service, by the empty name, and l2tp
abbrev pub IsServed : List ℕ → Type 0
IsServed name = (name ≡ []) ⊎ (name ≡ codes "l2tp")

-- it asks for no service that is served; or it asks for one, and its first AC-Cookie (0104) doesn't hold the cookie of its host, or there is
-- none
pub data IsRefusedFor (key src : List ℕ) (tags : List Tag) : Cause → Type 0 where
  ForItsService : ((name : List ℕ) → IsServed name → AsksFor tags name → ⊥) → IsRefusedFor key src tags cause.Service
  ForItsCookie : (name : List ℕ) → IsServed name → AsksFor tags name → ((t : Tag) → IsFirst 0x0104 t tags → t.value ≡ cookie_of key src → ⊥)
      → IsRefusedFor key src tags cause.Cookie
