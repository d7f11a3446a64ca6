-- Tunnels that close.
use Rattle.std.specs.Prelude.{ℕ, List, true, if◌then◌else◌, None}
use Rattle.id_table.specs.Ids.{ids_of}
use Rattle.wire_base.specs.declared.why.Why.TheVariants as why
use Rattle.wire_base.specs.declared.cause.Cause.TheVariants as cause
use Rattle.control_message.specs.declared.message.Message.TheVariants.{StopCcn}
use Rattle.tunnel_fsm.specs.declared.table.TunnelState.{TunnelState}
use Rattle.tunnel_fsm.specs.declared.table.TunnelAction.{TunnelAction}
use Rattle.tunnel_fsm.specs.declared.table.TunnelAction.TheVariants as action
use Rattle.end_model.specs.declared.tunnel.Call.{Call}
use Rattle.end_model.specs.declared.tunnel.Control.{Control}
use Rattle.end_model.specs.declared.out.Out.TheVariants.{Cause}
use Rattle.end_model.specs.declared.moves.Move.TheVariants as move
use Rattle.end_model.specs.Tunnels.{Turn, is_current}
use Rattle.end_model.specs.Channels.{next_place, taken_place, has_room}
use Rattle.end_model.specs.Moments.{is_open}
use Rattle.end_model.specs.Reasons.{Reason, reason}
use Rattle.end_model.specs.Turn.{with_output, with_move, drops, ends_all}
use Rattle.end_model.specs.Sending.{gives, takes_one}
use Rattle.end_model.specs.Codes.{clear_request}

-- it goes to its state, and where the id that the peer assigned wasn't known, it is learned
abbrev pub shut : ℕ → TunnelState → ℕ → Control → Control
shut remote next moment c = record c { state = next; remote = remote; closed = moment }

-- and its calls end with it
unfoldable pub shuts : List (ℕ × Call) → ℕ → TunnelState → Turn → Turn
shuts calls remote next t = ends_all (ids_of calls) (record t { control = shut remote next t.on.moment t.control })

-- the peer is told by a StopCCN with a result code (RFC 2661 sections 4.4.2 and 5.7), which names its tunnel where that is known
unfoldable pub closed_told : Reason → List (ℕ × Call) → ℕ → TunnelState → Turn → Turn
closed_told r calls remote next t =
    gives 0 (StopCcn t.control.local r.result r.error)
    (with_move (move.Closed (record { tunnel = t.control.local; remote = remote; booked = is_open t.control.state; result = r.result; error = r.error; given = next_place t.control }))
    (shuts calls remote next (with_output (Cause r.cause) t)))

unfoldable pub closes_tunnel : Reason → List (ℕ × Call) → ℕ → TunnelState → Turn → Turn
closes_tunnel r calls remote next t = if has_room t.control then closed_told r calls remote next t else drops why.Queue t

-- a letter that closes a tunnel which waits for its SCCRP is taken, and the peer told, whose id is as the letter tells it
unfoldable pub rejected : Reason → List (ℕ × Call) → ℕ → TunnelState → Turn → Turn
rejected r calls remote next t =
    gives 0 (StopCcn t.control.local r.result r.error)
    (with_move (move.Rejected (record { tunnel = t.control.local; remote = remote; result = r.result; error = r.error; taken = taken_place t.control; given = next_place t.control }))
    (shuts calls remote next (takes_one (with_output (Cause r.cause) t))))

unfoldable pub rejects : Reason → List (ℕ × Call) → ℕ → TunnelState → Turn → Turn
rejects r calls remote next t = if has_room t.control then rejected r calls remote next t else drops why.Queue t

-- the peer's StopCCN is taken
unfoldable pub closed_by : List (ℕ × Call) → TunnelState → Turn → Turn
closed_by calls next t =
    with_move (move.ClosedBy (record { tunnel = t.control.local; booked = is_open t.control.state; taken = taken_place t.control }))
    (shuts calls t.control.remote next (takes_one t))

-- the tunnel is removed with its calls, without a message
unfoldable pub clears : List (ℕ × Call) → Turn → Turn
clears calls t = record (ends_all (ids_of calls) (with_move (move.Cleared t.control.local (is_open t.control.state)) t)) { cleared = true }

-- an administrative close, by the table's row; a tunnel that is frozen or restored is cleared
unfoldable pub shuts_by : List (ℕ × Call) → TunnelState × TunnelAction → Turn → Turn
shuts_by calls (next, action.SendStopCcn) t =
    if is_current t.on.mode then closes_tunnel (reason cause.Operator clear_request None) calls t.control.remote next t else clears calls t
shuts_by calls (next, a) t = t
