-- What is known of an admission and of a frame that is carried, and the PADS to a PADR that was admitted (RFC 2516 section 5.4).
use Rattle.std.specs.Prelude.{◌≡◌, ℕ, ◌≤◌, ⊤, List, [], length, Option, Some, None}
use Rattle.wire_base.specs.declared.cause.Cause.{Cause}
use Rattle.pppoe_wire.specs.declared.frame.Pppoe.{Pppoe}
use Rattle.pppoe_wire.specs.Spelling.{frame_bytes}
use Rattle.pppoe_discovery.specs.declared.outcome.Discovered.{Discovered}
use Rattle.pppoe_discovery.specs.declared.outcome.Discovered.TheVariants.{Admit, Carried}
use Rattle.pppoe_discovery.specs.Asking.{IsShort}
use Rattle.pppoe_discovery.specs.Replies.{pads, refusal}

-- an admission's lists have no more bytes than a frame
abbrev pub IsTold : List ℕ → Option (List ℕ) → Option (List ℕ) → Type 0
IsTold service uniq relay = (length service ≤ 2048) × IsShort uniq × IsShort relay

-- what is an admission, and what has such lists where it is one
abbrev pub IsAdmission : Discovered → Type 0
IsAdmission (Admit src service uniq relay) = IsTold service uniq relay
IsAdmission other = ⊥

abbrev pub MayBeTold : Discovered → Type 0
MayBeTold (Admit src service uniq relay) = IsTold service uniq relay
MayBeTold other = ⊤

-- what is carried stands where the frame has its payload
abbrev pub IsPayloadOf : Pppoe → Discovered → Type 0
IsPayloadOf f (Carried src session start stop) = (start ≡ f.start) × (stop ≡ f.end)
IsPayloadOf f other = ⊤

-- and that is within the bytes
abbrev pub IsWithin : List ℕ → Discovered → Type 0
IsWithin bytes (Carried src session start stop) = (start ≤ stop) × (stop ≤ length bytes)
IsWithin bytes other = ⊤

-- with the session that the host gets, or with a cause
abbrev pub pads_to : List ℕ → Discovered → ℕ → Option Cause → List ℕ
pads_to mac (Admit src service uniq relay) session None = frame_bytes (pads mac src session service uniq relay)
pads_to mac (Admit src service uniq relay) session (Some because) = frame_bytes (refusal mac src because uniq relay)
pads_to mac other session because = []
