-- Calls that ring, and calls that are asked for.
use Rattle.std.specs.Prelude.{ℕ, List, [], ◌∷◌, nat_lt, if◌then◌else◌, Option, Some, None, Result, Ok, Err}
use Rattle.id_table.specs.Ids.{at}
use Rattle.id_source.specs.Spaces.{takes_id}
use Rattle.id_source.specs.declared.IdError.{IdError}
use Rattle.wire_base.specs.declared.why.Why.TheVariants as why
use Rattle.wire_base.specs.declared.cause.Cause.TheVariants as cause
use Rattle.call_fsm.specs.declared.table.CallEvent.TheVariants as call_event
use Rattle.end_model.specs.declared.tunnel.Call.{Call}
use Rattle.session_looks.specs.declared.look.CellChange.TheVariants as cell
use Rattle.end_model.specs.declared.tunnel.Config.{Config}
use Rattle.end_names.specs.declared.role.Role.{Role}
use Rattle.end_model.specs.declared.out.Out.TheVariants.{Cause}
use Rattle.end_model.specs.declared.moves.Move.TheVariants as move
use Rattle.end_model.specs.Tunnels.{Turn}
use Rattle.end_model.specs.Channels.{next_place, has_room, may_take}
use Rattle.end_model.specs.Messages.{request_of, hidden_request}
use Rattle.end_model.specs.Calls.{row_for, advanced, rung, is_request, are_too_many}
use Rattle.end_model.specs.Turn.{with_output, with_move, with_change, with_call, with_new, drops}
use Rattle.end_model.specs.Sending.{gives_as}
use Rattle.end_model.specs.Openings.{opened}
use Rattle.end_model.specs.Moments.{is_idle, is_open}

-- a waiting call is asked for, and the peer comes to know it
unfoldable pub requested : Role → Config → ℕ → Call → Turn → Turn
requested role config s c t =
    gives_as 0 (request_of s c.subscriber) (hidden_request config t.on.block s c.subscriber)
    (with_change (cell.Bind s t.control.local t.control.peer)
    (with_move (move.Requested (record { tunnel = t.control.local; session = s; subscriber = c.subscriber; hidden = hidden_request config t.on.block s c.subscriber; given = next_place t.control }))
    (with_call s (advanced role call_event.TunnelOpen t.on.moment c) t)))

unfoldable pub requests : Role → Config → ℕ → Call → Turn → Turn
requests role config s c t =
    if is_request (row_for role c call_event.TunnelOpen).1
    then (if has_room t.control then requested role config s c t else drops why.Queue t)
    else t

-- session ids have 16 bits
unfoldable pub requests_at : Role → Config → ℕ → Option Call → Turn → Turn
requests_at role config s None t = t
requests_at role config s (Some c) t = if nat_lt s 65536 then requests role config s c t else t

-- each of these calls that waits is asked for
unfoldable pub requests_all : Role → Config → List ℕ → List (ℕ × Call) → Turn → Turn
requests_all role config [] calls t = t
requests_all role config (s ∷ ss) calls t = requests_all role config ss calls (requests_at role config s (at calls s) t)

-- a call is born, and added to the tunnel
unfoldable pub adds : Role → List ℕ → ℕ → Turn → Turn
adds role who s t =
    with_move (move.Added (record { tunnel = t.control.local; session = s; subscriber = who }))
    (with_new s (rung role who t.on.moment) t)

-- over a tunnel that is open the call is asked for at once; over another it waits
unfoldable pub rings_over : Role → Config → List ℕ → ℕ → Turn → Turn
rings_over role config who s t =
    if is_open t.control.state then requests role config s (rung role who t.on.moment) (adds role who s t) else adds role who s t

unfoldable pub rings_by : Role → Config → List ℕ → Result ℕ IdError → Turn → Turn
rings_by role config who (Err e) t = with_output (Cause cause.Ids) t
rings_by role config who (Ok s) t = rings_over role config who s t

-- over a tunnel that has these calls
unfoldable pub rings_within : Role → Config → List (ℕ × Call) → List ℕ → Turn → Turn
rings_within role config calls who t =
    if are_too_many calls then with_output (Cause cause.Calls) t
    else if may_take t.control calls then rings_by role config who (takes_id t.ids.sessions) t
    else with_output (Cause cause.Queue) t

-- a new tunnel is opened for the call
unfoldable pub rings_new : Role → Config → List ℕ → Result ℕ IdError → Result ℕ IdError → Turn → Turn
rings_new role c who (Err e) local t = with_output (Cause cause.Ids) t
rings_new role c who (Ok s) (Err e) t = with_output (Cause cause.Ids) t
rings_new role c who (Ok s) (Ok local) t =
    if has_room t.control then adds role who s (opened role c local t) else with_output (Cause cause.Queue) t

unfoldable pub rings : Role → Config → List (ℕ × Call) → List ℕ → Turn → Turn
rings role c calls who t =
    if is_idle t.control.state
    then rings_new role c who (takes_id t.ids.sessions) (takes_id t.ids.tunnels) t
    else rings_within role c calls who t
