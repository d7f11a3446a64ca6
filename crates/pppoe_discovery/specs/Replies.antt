-- What an access concentrator sends (RFC 2516 sections 5.2, 5.4 and 5.5): PADO, PADS and PADT, by their tags.
use Rattle.std.specs.Prelude.{ℕ, ◌+◌, false, List, [], ◌∷◌, ◌++◌, length, Option, Some, None}
use Rattle.wire_base.specs.declared.cause.Cause.{Cause}
use Rattle.wire_base.specs.declared.cause.Cause.TheVariants as cause
use Rattle.wire_base.specs.Words.{cause_word}
use Rattle.pppoe_wire.specs.declared.frame.Pppoe.{Pppoe}
use Rattle.pppoe_wire.specs.declared.frame.Tag.{Tag}
use Rattle.pppoe_wire.specs.Spelling.{spelling}

-- ---- tags

abbrev pub tag : ℕ → List ℕ → Tag
tag kind value = record { kind = kind; value = value }

abbrev pub echo : ℕ → Option (List ℕ) → List Tag
echo kind None = []
echo kind (Some value) = tag kind value ∷ []

-- Host-Uniq and Relay-Session-Id, each where it came, as it came
abbrev pub echoes : Option (List ℕ) → Option (List ℕ) → List Tag
echoes uniq relay = echo 0x0103 uniq ++ echo 0x0110 relay

-- Service-Name, AC-Name and AC-Cookie come first
abbrev pub pado_tags : List ℕ → List ℕ → List ℕ → Option (List ℕ) → Option (List ℕ) → List Tag
pado_tags service name cookie uniq relay = tag 0x0101 service ∷ tag 0x0102 name ∷ tag 0x0104 cookie ∷ echoes uniq relay

-- Service-Name-Error, Generic-Error and AC-System-Error
abbrev pub error_kind : Cause → ℕ
error_kind cause.Service = 0x0201
error_kind cause.Cookie = 0x0203
error_kind why = 0x0202

-- the error comes first, with the cause's word
abbrev pub refusal_tags : Cause → Option (List ℕ) → Option (List ℕ) → List Tag
refusal_tags because uniq relay = tag (error_kind because) (cause_word because) ∷ echoes uniq relay

-- the Service-Name comes first
abbrev pub pads_tags : List ℕ → Option (List ℕ) → Option (List ℕ) → List Tag
pads_tags service uniq relay = tag 0x0101 service ∷ echoes uniq relay

-- ---- frames, from the first address to the second

abbrev pub sent : List ℕ → List ℕ → ℕ → ℕ → List ℕ → Pppoe
sent mac dst code session payload =
    record {
      dst = dst;
      src = mac;
      session_stage = false;
      code = code;
      session = session;
      start = 20;
      end = 20 + length payload;
      payload = payload;
    }

abbrev pub pado : List ℕ → List ℕ → List ℕ → List ℕ → List ℕ → Option (List ℕ) → Option (List ℕ) → Pppoe
pado mac dst service name cookie uniq relay = sent mac dst 0x07 0 (spelling (pado_tags service name cookie uniq relay))

abbrev pub pads : List ℕ → List ℕ → ℕ → List ℕ → Option (List ℕ) → Option (List ℕ) → Pppoe
pads mac dst session service uniq relay = sent mac dst 0x65 session (spelling (pads_tags service uniq relay))

-- a PADS that opens no session, so that its SESSION_ID is 0
abbrev pub refusal : List ℕ → List ℕ → Cause → Option (List ℕ) → Option (List ℕ) → Pppoe
refusal mac dst because uniq relay = sent mac dst 0x65 0 (spelling (refusal_tags because uniq relay))

abbrev pub padt : List ℕ → List ℕ → ℕ → Pppoe
padt mac dst session = sent mac dst 0xa7 session []
