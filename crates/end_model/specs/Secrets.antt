-- What ends ask of one another and answer by a secret that both know (RFC 2661 section 5.1.1), and messages whose hidden values the
-- secret uncovers (section 4.3).
use Rattle.std.specs.Prelude.{◌≡◌, ℕ, Bool, true, false, not, ◌&&◌, if◌then◌else◌, List, ◌++◌, take, replicate, length, nat_le, find, Option, Some, None, is_some, is_none, unwrap_or, Result, Ok, Err}
use Rattle.std.proofs.lemmas.List.{take_at}
use Rattle.avp_codec.specs.declared.avp.Avp.{Avp}
use Rattle.avp_codec.specs.declared.error.AvpError.{AvpError}
use Rattle.avp_codec.specs.Reading.{avps_of}
use Rattle.avp_codec.specs.Spelling.{spelling}
use Rattle.l2tp_header.specs.declared.header.Header.{Header}
use Rattle.l2tp_header.specs.declared.header.HeaderError.{HeaderError}
use Rattle.l2tp_header.specs.Reading.{header_of, body_of}
use Rattle.l2tp_header.specs.Spelling.{control_bytes}
use Rattle.tunnel_secret.specs.Response.{response_of, is_response}
use Rattle.control_message.specs.Uncovering.{uncovered}
use Rattle.end_model.specs.declared.event.Event.{Event}
use Rattle.end_model.specs.declared.event.Event.TheVariants.{Datagram, Ring, Frame, Admitted, Payload, Lower, Lcp, Hang, OpenTunnel, DropCall, CloseTunnel, Tick}

-- ---- challenges and responses

-- the 16 bytes of a step's block; zeros where it has fewer
abbrev pub sixteen : List ℕ → List ℕ
sixteen block = take 16 (block ++ replicate 16 0)

pub sixteen_is : (block : List ℕ) → length block ≡ 16 → sixteen block ≡ block
sixteen_is block h = take_at block (replicate 16 0) 16 h

-- an end that has a secret asks the peer of each tunnel that it opens or accepts to answer these bytes
abbrev pub challenge_by : Option (List ℕ) → List ℕ → Option (List ℕ)
challenge_by None block = None
challenge_by (Some secret) block = Some (sixteen block)

-- what an end answers, where it was asked and has a secret, in a message of this type: 2 for an SCCRP, 3 for an SCCCN
abbrev pub response_by : ℕ → Option (List ℕ) → Option (List ℕ) → Option (List ℕ)
response_by kind None asked = None
response_by kind (Some secret) None = None
response_by kind (Some secret) (Some asked) = Some (response_of kind secret asked)

-- an end that has no secret can't answer
abbrev pub lacks_secret : Option (List ℕ) → Option (List ℕ) → Bool
lacks_secret secret asked = is_some asked && is_none secret

-- an end that asked finds the answer wrong, or none
abbrev pub is_wrong : ℕ → Option (List ℕ) → Option (List ℕ) → Option (List ℕ) → Bool
is_wrong kind None asked given = false
is_wrong kind (Some secret) None given = false
is_wrong kind (Some secret) (Some asked) None = true
is_wrong kind (Some secret) (Some asked) (Some given) = not (is_response kind secret asked given)

-- ---- hidden values

abbrev pub has_hidden : List Avp → Bool
has_hidden avps = is_some (find (λ (a : Avp). a.hidden) avps)

-- A message has at most 65,535 bytes, of which 12 are its header. One with hidden values is as one with the same numbers and ids, and with those values plain
-- that the secret uncovers
abbrev pub uncovered_pairs : List ℕ → List ℕ → Header → Result (List Avp) AvpError → List ℕ
uncovered_pairs secret bytes h (Err x) = bytes
uncovered_pairs secret bytes h (Ok avps) =
    if has_hidden avps && nat_le (length (spelling (uncovered (Some secret) avps))) 65523
    then control_bytes h.tunnel h.session (unwrap_or h.ns 0) (unwrap_or h.nr 0) (spelling (uncovered (Some secret) avps))
    else bytes

abbrev pub uncovered_by : List ℕ → List ℕ → Result Header HeaderError → List ℕ
uncovered_by secret bytes (Err x) = bytes
uncovered_by secret bytes (Ok h) = if h.control then uncovered_pairs secret bytes h (avps_of (body_of bytes h)) else bytes

-- a datagram as an end with this secret reads it
unfoldable pub uncovered_datagram : Option (List ℕ) → List ℕ → List ℕ
uncovered_datagram None bytes = bytes
uncovered_datagram (Some secret) bytes = uncovered_by secret bytes (header_of bytes)

abbrev pub uncovered_event : Option (List ℕ) → Event → Event
uncovered_event secret (Datagram peer bytes) = Datagram peer (uncovered_datagram secret bytes)
uncovered_event secret (Ring port) = Ring port
uncovered_event secret (Frame bytes) = Frame bytes
uncovered_event secret (Admitted mac) = Admitted mac
uncovered_event secret (Payload session frame) = Payload session frame
uncovered_event secret (Lower session frame) = Lower session frame
uncovered_event secret (Lcp session packet) = Lcp session packet
uncovered_event secret (Hang session) = Hang session
uncovered_event secret OpenTunnel = OpenTunnel
uncovered_event secret (DropCall session) = DropCall session
uncovered_event secret (CloseTunnel tunnel) = CloseTunnel tunnel
uncovered_event secret Tick = Tick
