-- What becomes of an event that no tunnel takes.
use Rattle.std.specs.Prelude.{ℕ, List, [], ◌∷◌, length, not, ◌==◌, nat_le, if◌then◌else◌, Option, Some, None, is_some, Result, Ok, Err}
use Rattle.id_source.specs.Spaces.{Space, takes_id}
use Rattle.wire_base.specs.declared.why.Why.{Why}
use Rattle.wire_base.specs.declared.why.Why.TheVariants as why
use Rattle.wire_base.specs.declared.cause.Cause.TheVariants as cause
use Rattle.l2tp_header.specs.declared.header.Header.{Header}
use Rattle.l2tp_header.specs.declared.header.HeaderError.{HeaderError}
use Rattle.l2tp_header.specs.Reading.{header_of, body_of}
use Rattle.control_message.specs.declared.message.Message.{Message}
use Rattle.control_message.specs.declared.message.Message.TheVariants.{Sccrq}
use Rattle.control_message.specs.declared.message.Opening.{Opening}
use Rattle.control_message.specs.declared.message.Recovery.{Recovery as Named}
use Rattle.session_looks.specs.Frames.{header_why}
use Rattle.end_names.specs.declared.role.Role.{Role}
use Rattle.end_names.specs.declared.role.Role.TheVariants.{Lac, Lns}
use Rattle.end_model.specs.Calls.{is_lac}
use Rattle.end_model.specs.declared.event.Addressee.{Addressee}
use Rattle.end_model.specs.declared.event.Addressee.TheVariants as to
use Rattle.end_model.specs.declared.event.Event.{Event}
use Rattle.end_model.specs.declared.event.Event.TheVariants.{Datagram, Ring, Frame, Admitted, Payload, Lower, Lcp, Hang, OpenTunnel, DropCall, CloseTunnel, Tick}
use Rattle.end_model.specs.declared.out.Out.{Out}
use Rattle.end_model.specs.declared.out.Out.TheVariants.{Send, Drop, Cause}
use Rattle.end_model.specs.declared.moves.Move.TheVariants as move
use Rattle.end_model.specs.declared.tunnel.Config.{Config}
use Rattle.end_model.specs.Reading.{message_in, TunnelFault, tunnel_fault_in}
use Rattle.end_model.specs.Reasons.{Reason, out_of_order, other_version, no_recovery, no_secret, no_tunnel}
use Rattle.end_model.specs.Secrets.{lacks_secret}
use Rattle.end_model.specs.End.{lacks_id, against_faulty, next_of_peer, decline_bytes, decline_origin}
use Rattle.tunnel_listing.specs.declared.listed.Wanted.TheVariants as wanted
use Rattle.tunnel_listing.specs.Directory.{Directory, found_in}
use Rattle.event_routing.specs.declared.answers.Given.{Given}
use Rattle.event_routing.specs.declared.answers.Answer.{Answer}
use Rattle.event_routing.specs.declared.answers.Answer.TheVariants.{Opens, Gives}
use Rattle.event_routing.specs.Addressing.{addressed_in}

-- one output is given
abbrev pub gives : Out → Given
gives o = record { outputs = o ∷ []; moves = [] }

-- it is declined, by a StopCCN of no tunnel
abbrev pub declines : ℕ → ℕ → ℕ → Reason → Given
declines peer remote nr r = record {
  outputs = Cause r.cause ∷ Send peer (decline_bytes remote nr r) (decline_origin nr) ∷ [];
  moves = move.Declined (record { peer = peer; remote = remote; nr = nr; result = r.result; error = r.error }) ∷ [];
}

-- what stands against an SCCRQ that would open a tunnel, the first that counts
unfoldable pub against_opening_in : Directory → Config → Space → Opening → Option Reason
against_opening_in d c ids o =
    if not (o.version == 256) then Some other_version
    else if nat_le 1024 (length d.places.entries) then Some no_tunnel
    else if lacks_secret c.secret o.challenge then Some no_secret
    else lacks_id (takes_id ids)

abbrev pub against_said_in : Directory → Config → Space → Option TunnelFault → Result Message Why → Option Reason
against_said_in d c ids g (Ok (Sccrq o)) = against_opening_in d c ids o
against_said_in d c ids g (Ok m) = None
against_said_in d c ids g (Err w) = against_faulty g

abbrev pub opens_or_declines_in : ℕ → ℕ → ℕ → Option Reason → Answer
opens_or_declines_in peer remote nr None = Opens peer
opens_or_declines_in peer remote nr (Some r) = Gives (declines peer remote nr r)

-- an attempt at the recovery of a tunnel that isn't there
abbrev pub recovers_by_in : ℕ → ℕ → Opening → Option Named → Given
recovers_by_in peer nr o None = declines peer o.tunnel nr no_recovery
recovers_by_in peer nr o (Some named) = if not (o.version == 256) then declines peer o.tunnel nr other_version else declines peer o.tunnel nr no_recovery

abbrev pub recovers_in : ℕ → ℕ → Result Message Why → Given
recovers_in peer nr (Ok (Sccrq o)) = recovers_by_in peer nr o o.recovery
recovers_in peer nr m = gives (Drop why.Tunnel)

-- a control message that is for nobody; one that is for a tunnel of the table is its caller's to give to that tunnel
unfoldable pub answer_message : Directory → Config → Space → ℕ → Header → List ℕ → Addressee → Answer
answer_message d c ids peer h body (to.Opens remote) =
    opens_or_declines_in peer remote (next_of_peer h) (against_said_in d c ids (tunnel_fault_in body) (message_in body))
answer_message d c ids peer h body (to.Stops remote) = Gives (gives (Drop why.Tunnel))
answer_message d c ids peer h body (to.Answers remote) = Gives (declines peer remote (next_of_peer h) out_of_order)
answer_message d c ids peer h body (to.Main i) = Gives (gives (Drop why.Tunnel))
answer_message d c ids peer h body (to.Recovery i) = Gives (gives (Drop why.Tunnel))
answer_message d c ids peer h body (to.Recovers remote) = Gives (recovers_in peer (next_of_peer h) (message_in body))
answer_message d c ids peer h body (to.Nobody w) = Gives (gives (Drop w))

-- a data message is none of a turn's
unfoldable pub answer_datagram : Directory → Config → Space → ℕ → List ℕ → Result Header HeaderError → Answer
answer_datagram d c ids peer bytes (Err x) = Gives (gives (Drop (header_why x)))
answer_datagram d c ids peer bytes (Ok h) =
    if h.control then answer_message d c ids peer h (body_of bytes h) (addressed_in d peer h (body_of bytes h)) else Gives (gives (Drop why.Session))

-- a new tunnel to the LNS, where there may be one more
abbrev pub one_more_in : Directory → Answer
one_more_in d = if nat_le 1024 (length d.places.entries) then Gives (gives (Cause cause.Tunnels)) else Opens d.lns

-- a ring goes over a new tunnel, unless one is recovered
unfoldable pub rings_in : Directory → Answer
rings_in d = if is_some (found_in d (wanted.Recovering d.lns)) then Gives (gives (Cause cause.Recovering)) else one_more_in d

-- an event of the other kind of end is ignored
abbrev pub only_in : Role → Role → Answer → Answer
only_in Lac role a = if is_lac role then a else Gives (gives (Drop why.Node))
only_in Lns role a = if is_lac role then Gives (gives (Drop why.Node)) else a

unfoldable pub answer_in : Directory → Config → Space → Event → Answer
answer_in d c ids (Datagram peer bytes) = answer_datagram d c ids peer bytes (header_of bytes)
answer_in d c ids (Ring port) = only_in Lac d.role (rings_in d)
answer_in d c ids (Admitted mac) = only_in Lac d.role (rings_in d)
answer_in d c ids (Frame bytes) = Gives (gives (Drop why.Node))
answer_in d c ids (Payload session frame) = only_in Lac d.role (Gives (gives (Drop why.Call)))
answer_in d c ids (Lower session frame) = only_in Lns d.role (Gives (gives (Drop why.Call)))
answer_in d c ids (Lcp session packet) = only_in Lns d.role (Gives (gives (Drop why.Call)))
answer_in d c ids (Hang session) = only_in Lac d.role (Gives (gives (Drop why.Call)))
answer_in d c ids OpenTunnel = only_in Lac d.role (one_more_in d)
answer_in d c ids (CloseTunnel i) = Gives (gives (Drop why.Tunnel))
answer_in d c ids (DropCall session) = Gives (gives (Drop why.Call))
answer_in d c ids Tick = Gives (record { outputs = []; moves = [] })
