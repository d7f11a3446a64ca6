-- What a frame leads to at an access concentrator (RFC 2516 section 5), the first fault first.
use Rattle.std.specs.Prelude.{ℕ, ◌%◌, Bool, not, ◌&&◌, ◌||◌, ◌==◌, if◌then◌else◌, List, [], ◌∷◌, slice_index_or, Option, Some, None, Result, Ok, Err}
use Rattle.wire_base.specs.declared.cause.Cause.{Cause}
use Rattle.wire_base.specs.declared.cause.Cause.TheVariants as cause
use Rattle.wire_base.specs.declared.why.Why.{Why}
use Rattle.wire_base.specs.declared.why.Why.TheVariants as why
use Rattle.pppoe_wire.specs.declared.frame.Pppoe.{Pppoe}
use Rattle.pppoe_wire.specs.declared.frame.Tag.{Tag}
use Rattle.pppoe_wire.specs.declared.error.PppoeError.{PppoeError}
use Rattle.pppoe_wire.specs.declared.error.PppoeError.TheVariants as frame_errors
use Rattle.pppoe_wire.specs.declared.error.TagError.{TagError}
use Rattle.pppoe_wire.specs.Spelling.{frame_bytes}
use Rattle.pppoe_wire.specs.Reading.{frame_of, tags_of}
use Rattle.pppoe_discovery.specs.declared.asking.Asked.{Asked}
use Rattle.pppoe_discovery.specs.declared.outcome.Discovered.{Discovered}
use Rattle.pppoe_discovery.specs.declared.outcome.Discovered.TheVariants.{Ignored, Reply, Admit, Left, Carried}
use Rattle.pppoe_discovery.specs.Cookie.{cookie_of, is_same, is_cookie}
use Rattle.pppoe_discovery.specs.Asking.{asked_by}
use Rattle.pppoe_discovery.specs.Replies.{pado, refusal}

-- ---- addresses

-- the lowest bit of the first byte tells a group
abbrev pub is_group : List ℕ → Bool
is_group mac = slice_index_or mac 0 0 % 2 == 1

abbrev pub is_padi : Pppoe → Bool
is_padi f = not f.session_stage && f.code == 0x09

abbrev pub broadcast : List ℕ
broadcast = 0xff ∷ 0xff ∷ 0xff ∷ 0xff ∷ 0xff ∷ 0xff ∷ []

-- whether a frame comes from one host, and to this one, or as a PADI to all
abbrev pub is_for : List ℕ → Pppoe → Bool
is_for mac f = not (is_group f.src) && (is_same f.dst mac || is_padi f && is_same f.dst broadcast)

-- ---- requests

-- a PADI is answered by a PADO, or not at all (section 5.2)
abbrev pub offer : List ℕ → List ℕ → List ℕ → List ℕ → Asked → Option (List ℕ) → Discovered
offer key mac name src asked None = Ignored why.Service
offer key mac name src asked (Some service) =
    Reply None (frame_bytes (pado mac src service name (cookie_of key src) asked.uniq asked.relay))

abbrev pub refused : List ℕ → List ℕ → Cause → Asked → Discovered
refused mac src because asked = Reply (Some because) (frame_bytes (refusal mac src because asked.uniq asked.relay))

-- a PADR is admitted, or refused by a PADS (section 5.4): first for its service, then for its cookie
abbrev pub admission : List ℕ → List ℕ → List ℕ → Asked → Option (List ℕ) → Discovered
admission key mac src asked None = refused mac src cause.Service asked
admission key mac src asked (Some service) =
    if is_cookie key src asked.cookie then Admit src service asked.uniq asked.relay else refused mac src cause.Cookie asked

abbrev pub requested : List ℕ → List ℕ → List ℕ → Pppoe → Result (List Tag) TagError → Discovered
requested key mac name f (Err e) = Ignored why.Tag
requested key mac name f (Ok tags) =
    if f.code == 0x09 then offer key mac name f.src (asked_by tags) (asked_by tags).service
    else admission key mac f.src (asked_by tags) (asked_by tags).service

-- ---- frames

-- a session frame has the code 00, and a discovery frame that is taken here is a PADI, a PADR or a PADT, whose tags aren't
-- looked at
unfoldable pub taken : List ℕ → List ℕ → List ℕ → Pppoe → Discovered
taken key mac name f =
    if not (is_for mac f) then Ignored why.Address
    else if f.session_stage then (if f.code == 0 then Carried f.src f.session f.start f.end else Ignored why.Code)
    else if f.code == 0xa7 then Left f.src f.session
    else if f.code == 0x09 || f.code == 0x19 then requested key mac name f (tags_of f.payload)
    else Ignored why.Code

-- the word of a fault of a frame; reading as such never wants memory
abbrev pub fault_word : PppoeError → Why
fault_word frame_errors.Short = why.Short
fault_word (frame_errors.VerType seen) = why.Vertype
fault_word (frame_errors.Length said have) = why.Length
fault_word frame_errors.NoMemory = why.Short

abbrev pub discovered_by : List ℕ → List ℕ → List ℕ → Result Pppoe PppoeError → Discovered
discovered_by key mac name (Err e) = Ignored (fault_word e)
discovered_by key mac name (Ok f) = taken key mac name f

-- of the key of cookies, the own address, the own name and the bytes of a frame
abbrev pub discovered : List ℕ → List ℕ → List ℕ → List ℕ → Discovered
discovered key mac name bytes = discovered_by key mac name (frame_of bytes)
