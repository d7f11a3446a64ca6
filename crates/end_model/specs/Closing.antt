-- Calls that this end closes.
use Rattle.std.specs.Prelude.{ℕ, Bool, not, nat_lt, if◌then◌else◌, Option, Some, None}
use Rattle.wire_base.specs.declared.why.Why.TheVariants as why
use Rattle.wire_base.specs.declared.cause.Cause.{Cause as CauseOf}
use Rattle.control_message.specs.declared.message.Message.TheVariants.{Cdn}
use Rattle.call_fsm.specs.declared.table.CallEvent.{CallEvent}
use Rattle.call_fsm.specs.declared.table.CallAction.{CallAction}
use Rattle.call_fsm.specs.declared.table.CallAction.TheVariants as call_action
use Rattle.end_model.specs.declared.tunnel.Call.{Call}
use Rattle.end_names.specs.declared.role.Role.{Role}
use Rattle.end_model.specs.declared.out.Out.TheVariants.{Cause}
use Rattle.end_model.specs.declared.moves.Move.TheVariants as move
use Rattle.end_model.specs.Tunnels.{Turn, is_current}
use Rattle.end_model.specs.Channels.{next_place, has_room}
use Rattle.end_model.specs.Calls.{row_for, is_up}
use Rattle.end_model.specs.Turn.{with_output, with_move, drops, ends_call}
use Rattle.end_model.specs.Sending.{gives}

-- a call ends: the peer, where it was asked for it, is told by a CDN with a result code (RFC 2661 section 4.4.2)
unfoldable pub end_silent : ℕ → Bool → Turn → Turn
end_silent s booked t = with_move (move.EndSilent (record { tunnel = t.control.local; session = s; booked = booked })) (ends_call s t)

unfoldable pub end_told : ℕ → Call → ℕ → Option ℕ → Turn → Turn
end_told s c result error t =
    gives c.remote (Cdn s result error)
    (with_move (move.EndTold (record { tunnel = t.control.local; session = s; remote = c.remote; booked = is_up c.state; result = result; error = error; given = next_place t.control }))
    (ends_call s t))

-- by its table's row; a row that only cleans up has no cause. In a tunnel that is frozen or restored nobody is told
unfoldable pub ends_by : CauseOf → ℕ → Option ℕ → ℕ → Call → CallAction → Turn → Turn
ends_by for result error s c call_action.CleanUp t = end_silent s (is_up c.state) t
ends_by for result error s c call_action.SendCdn t =
    if not (is_current t.on.mode) then end_silent s (is_up c.state) t
    else if has_room t.control then end_told s c result error (with_output (Cause for) t) else drops why.Queue t
ends_by for result error s c a t = t

-- a call of this end's is closed, by an event of its table; session ids have 16 bits
unfoldable pub closes : Role → CauseOf → CallEvent → ℕ → ℕ → Option Call → Turn → Turn
closes role for e result s None t = drops why.Call t
closes role for e result s (Some c) t =
    if nat_lt s 65536 then ends_by for result None s c (row_for role c e).1 t else t
