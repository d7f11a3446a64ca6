-- Whether an event fits: what it names is live.
use Rattle.std.specs.Prelude.{Bool, true, false, Option, Some, None, is_some}
use Rattle.id_table.specs.Ids.{at}
use Rattle.wire_base.specs.declared.why.Why.{Why}
use Rattle.wire_base.specs.declared.why.Why.TheVariants as why
use Rattle.end_model.specs.declared.event.Event.{Event}
use Rattle.end_model.specs.declared.event.Event.TheVariants.{Payload, Lower, Lcp, Hang, DropCall, CloseTunnel}
use Rattle.end_model.specs.End.{End, is_not_closed}

-- what isn't there is told
abbrev pub unless : Bool → Why → Option Why
unless true w = None
unless false w = Some w

-- A call is live as long as the end has it, and a tunnel is to be live and not closed. Whether the event is one of this kind of end
-- isn't asked here.
unfoldable pub fits : End → Event → Option Why
fits e (Payload session frame) = unless (is_some (at e.calls session)) why.Call
fits e (Lower session frame) = unless (is_some (at e.calls session)) why.Call
fits e (Lcp session packet) = unless (is_some (at e.calls session)) why.Call
fits e (Hang session) = unless (is_some (at e.calls session)) why.Call
fits e (DropCall session) = unless (is_some (at e.calls session)) why.Call
fits e (CloseTunnel i) = unless (is_not_closed (at e.tunnels i)) why.Tunnel
fits e ev = None
