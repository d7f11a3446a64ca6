-- What the functions don't say by themselves: cookies lead back to whom they were given, what is sent is read as it was
-- meant, and the two stages stay apart.
use Rattle.std.specs.Prelude.{◌≡◌, ℕ, ◌≤◌, ◌<◌, ◌^◌, Bool, true, false, List, [], ◌++◌, length, Option, Some, Ok}
use Rattle.wire_base.specs.declared.cause.Cause.{Cause}
use Rattle.pppoe_wire.specs.declared.frame.Pppoe.{Pppoe}
use Rattle.pppoe_wire.specs.declared.frame.Tag.{Tag}
use Rattle.pppoe_wire.specs.Spelling.{frame_bytes}
use Rattle.pppoe_wire.specs.Reading.{frame_of, tags_of}
use Rattle.pppoe_discovery.specs.declared.outcome.Discovered.{Discovered}
use Rattle.pppoe_discovery.specs.declared.outcome.Discovered.TheVariants.{Ignored, Admit, Carried}
use Rattle.pppoe_discovery.specs.Cookie.{cookie_of}
use Rattle.pppoe_discovery.specs.Asking.{value_of, service_of, IsShort}
use Rattle.pppoe_discovery.specs.Replies.{pado_tags, pads_tags, refusal_tags, pado, pads, refusal, padt}
use Rattle.pppoe_discovery.specs.Discovery.{is_for, discovered}

-- ---- cookies

-- the bytes are a PADR from an address with these tags, which ask for a service that is served, and have the cookie that
-- the address was given
pub record TakesUp (key bytes src service : List ℕ) (tags : List Tag) : Type 0 where
  pub frame : Pppoe
  pub reads : frame_of bytes ≡ Ok frame
  pub discovery : frame.session_stage ≡ false
  pub code : frame.code ≡ 0x19
  pub source : frame.src ≡ src
  pub reads_tags : tags_of frame.payload ≡ Ok tags
  pub named : service_of tags ≡ Some service
  pub cookie : value_of 0x0104 tags ≡ Some (cookie_of key src)

-- a PADR that takes up an offer, and comes to the address that made it, is admitted
abbrev pub TakesBack : Type 0
TakesBack =
    (key mac name bytes src service : List ℕ) (tags : List Tag) → (padr : TakesUp key bytes src service tags) → is_for mac padr.frame ≡ true
    → discovered key mac name bytes ≡ Admit src service (value_of 0x0103 tags) (value_of 0x0110 tags)

-- what is admitted is such a PADR
abbrev pub AdmitsCookies : Type 0
AdmitsCookies =
    (key mac name bytes src service : List ℕ) (uniq relay : Option (List ℕ)) → discovered key mac name bytes ≡ Admit src service uniq relay
    → (tags : List Tag) × TakesUp key bytes src service tags × (value_of 0x0103 tags ≡ uniq) × (value_of 0x0110 tags ≡ relay)

-- ---- what is sent

abbrev pub IsRead : List ℕ → Pppoe → List Tag → Type 0
IsRead bytes f tags = (frame_of bytes ≡ Ok f) × (tags_of f.payload ≡ Ok tags)

pub record AreAddresses (mac dst : List ℕ) : Type 0 where
  pub own : length mac ≡ 6
  pub host : length dst ≡ 6

-- a PADO, a PADS, a refusal and a PADT are read again, with padding of any kind behind them
abbrev pub ReadsOffer : Type 0
ReadsOffer =
    (mac dst service name cookie padding : List ℕ) (uniq relay : Option (List ℕ)) → AreAddresses mac dst
    → length service ≤ 2048 → length name ≤ 255 → length cookie ≡ 16 → IsShort uniq → IsShort relay
    → IsRead (frame_bytes (pado mac dst service name cookie uniq relay) ++ padding)
    (pado mac dst service name cookie uniq relay)
    (pado_tags service name cookie uniq relay)

abbrev pub ReadsAnswer : Type 0
ReadsAnswer =
    (mac dst service padding : List ℕ) (session : ℕ) (uniq relay : Option (List ℕ)) → AreAddresses mac dst → session < 2 ^ 16
    → length service ≤ 2048 → IsShort uniq → IsShort relay
    → IsRead (frame_bytes (pads mac dst session service uniq relay) ++ padding) (pads mac dst session service uniq relay) (pads_tags service uniq relay)

abbrev pub ReadsRefusal : Type 0
ReadsRefusal =
    (mac dst padding : List ℕ) (because : Cause) (uniq relay : Option (List ℕ)) → AreAddresses mac dst → IsShort uniq → IsShort relay
    → IsRead (frame_bytes (refusal mac dst because uniq relay) ++ padding) (refusal mac dst because uniq relay) (refusal_tags because uniq relay)

abbrev pub ReadsEnd : Type 0
ReadsEnd =
    (mac dst padding : List ℕ) (session : ℕ) → AreAddresses mac dst → session < 2 ^ 16
    → IsRead (frame_bytes (padt mac dst session) ++ padding) (padt mac dst session) []

-- ---- stages

abbrev pub IsOf : Bool → Discovered → Type 0
IsOf true (Carried src session start stop) = Unit {0}
IsOf true (Ignored why) = Unit {0}
IsOf true other = ⊥
IsOf false (Carried src session start stop) = ⊥
IsOf false other = Unit {0}

-- a session frame is carried or ignored, and a discovery frame is never carried
abbrev pub KeepsStages : Type 0
KeepsStages = (key mac name bytes : List ℕ) (f : Pppoe) → frame_of bytes ≡ Ok f → IsOf f.session_stage (discovered key mac name bytes)
