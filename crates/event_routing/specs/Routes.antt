-- Which tunnel of an end takes an event, as its tunnels are listed.
use Rattle.std.specs.Prelude.{ℕ, List, if◌then◌else◌, Option, Some, None, is_some, Result, Ok, Err}
use Rattle.id_table.specs.Ids.{at}
use Rattle.wire_base.specs.declared.why.Why.{Why}
use Rattle.l2tp_header.specs.declared.header.Header.{Header}
use Rattle.l2tp_header.specs.declared.header.HeaderError.{HeaderError}
use Rattle.l2tp_header.specs.Reading.{header_of, body_of}
use Rattle.control_message.specs.declared.message.Message.{Message}
use Rattle.control_message.specs.declared.message.Message.TheVariants.{Sccrq}
use Rattle.control_message.specs.declared.message.Recovery.{Recovery as Named}
use Rattle.tunnel_fsm.specs.declared.table.TunnelState.TheVariants.{Established, WaitCtlReply}
use Rattle.end_names.specs.declared.role.Role.{Role}
use Rattle.end_names.specs.declared.role.Role.TheVariants.{Lac, Lns}
use Rattle.end_model.specs.Calls.{is_lac}
use Rattle.end_model.specs.Reading.{message_in}
use Rattle.end_model.specs.declared.event.Addressee.{Addressee}
use Rattle.end_model.specs.declared.event.Addressee.TheVariants as to
use Rattle.end_model.specs.declared.event.Event.{Event}
use Rattle.end_model.specs.declared.event.Event.TheVariants.{Datagram, Ring, Frame, Admitted, Payload, Lower, Lcp, Hang, OpenTunnel, DropCall, CloseTunnel, Tick}
use Rattle.tunnel_listing.specs.declared.listed.Wanted.TheVariants as wanted
use Rattle.tunnel_listing.specs.Directory.{Directory, found_in}
use Rattle.event_routing.specs.declared.routes.Route.{Route}
use Rattle.event_routing.specs.declared.routes.Route.TheVariants.{Nobody, Main, Recovery, Attempt}
use Rattle.event_routing.specs.Addressing.{addressed_in}

-- the tunnel with an id, where there is one
abbrev pub at_id : Directory → ℕ → Route
at_id d i = if is_some (at d.places.entries i) then Main i else Nobody

-- an attempt at the recovery of a tunnel, where that is there
abbrev pub attempt_at : Directory → Option Named → Route
attempt_at d None = Nobody
attempt_at d (Some named) = if is_some (at d.places.entries named.receiver) then Attempt named.receiver else Nobody

abbrev pub attempt_by : Directory → Result Message Why → Route
attempt_by d (Ok (Sccrq o)) = attempt_at d o.recovery
attempt_by d m = Nobody

-- a control message with this body
abbrev pub route_message : Directory → List ℕ → Addressee → Route
route_message d body (to.Main i) = Main i
route_message d body (to.Recovery i) = Recovery i
route_message d body (to.Recovers remote) = attempt_by d (message_in body)
route_message d body a = Nobody

unfoldable pub route_datagram : Directory → ℕ → List ℕ → Result Header HeaderError → Route
route_datagram d peer bytes (Err x) = Nobody
route_datagram d peer bytes (Ok h) =
    if h.control then route_message d (body_of bytes h) (addressed_in d peer h (body_of bytes h)) else Nobody

-- a ring goes over the least tunnel to the LNS that is open, else over the least that is to open
abbrev pub first_route : Option ℕ → Option ℕ → Route
first_route (Some i) opening = Main i
first_route None (Some i) = Main i
first_route None None = Nobody

unfoldable pub ring_route : Directory → Route
ring_route d = first_route (found_in d (wanted.In Established d.lns)) (found_in d (wanted.In WaitCtlReply d.lns))

-- an event of a call goes to its tunnel
abbrev pub call_route : Directory → Option ℕ → Route
call_route d None = Nobody
call_route d (Some i) = at_id d i

-- an event of the other kind of end is nobody's
abbrev pub only_route : Role → Role → Route → Route
only_route Lac role r = if is_lac role then r else Nobody
only_route Lns role r = if is_lac role then Nobody else r

-- the tunnel that takes an event, where `call` is the tunnel of its call
unfoldable pub route_in : Directory → Option ℕ → Event → Route
route_in d call (Datagram peer bytes) = route_datagram d peer bytes (header_of bytes)
route_in d call (Ring port) = only_route Lac d.role (ring_route d)
route_in d call (Admitted mac) = only_route Lac d.role (ring_route d)
route_in d call (Frame bytes) = Nobody
route_in d call (Payload session frame) = only_route Lac d.role (call_route d call)
route_in d call (Lower session frame) = only_route Lns d.role (call_route d call)
route_in d call (Lcp session packet) = only_route Lns d.role (call_route d call)
route_in d call (Hang session) = only_route Lac d.role (call_route d call)
route_in d call OpenTunnel = Nobody
route_in d call (CloseTunnel i) = at_id d i
route_in d call (DropCall session) = call_route d call
route_in d call Tick = Nobody
