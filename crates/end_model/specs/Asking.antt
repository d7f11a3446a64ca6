-- Calls that the peer asks for.
use Rattle.std.specs.Prelude.{ℕ, List, find, Bool, false, ◌==◌, ◌||◌, not, if◌then◌else◌, Option, Some, None, is_some, unwrap_or, Result, Ok, Err}
use Rattle.id_table.specs.Ids.{at, ids_of}
use Rattle.id_source.specs.Spaces.{Space, takes_id}
use Rattle.id_source.specs.declared.IdError.{IdError}
use Rattle.wire_base.specs.declared.why.Why.TheVariants as why
use Rattle.wire_base.specs.declared.cause.Cause.TheVariants as cause
use Rattle.control_message.specs.declared.message.Message.TheVariants.{Icrp}
use Rattle.call_fsm.specs.declared.table.CallEvent.TheVariants as call_event
use Rattle.end_model.specs.declared.tunnel.Call.{Call}
use Rattle.end_names.specs.declared.role.Role.{Role}
use Rattle.end_model.specs.declared.moves.Move.TheVariants as move
use Rattle.end_model.specs.Tunnels.{Turn}
use Rattle.end_model.specs.Channels.{next_place, taken_place, has_room}
use Rattle.end_model.specs.Reasons.{Reason, reason, out_of_state}
use Rattle.end_model.specs.Calls.{row_for, row_of_none, asked_for, is_reply, are_too_many}
use Rattle.end_model.specs.Turn.{with_move, with_new, drops}
use Rattle.end_model.specs.Sending.{gives, takes_one}
use Rattle.end_model.specs.Refusing.{answers_by, refuses}
use Rattle.end_model.specs.Codes.{general_error, facilities_lacking, invalid_session}

-- a header with session 0 comes where the peer knows no session of this end: the call is the one whose other id is told
abbrev pub is_call_of : ℕ → Option Call → Bool
is_call_of remote None = false
is_call_of remote (Some c) = c.remote == remote

unfoldable pub call_of : List (ℕ × Call) → ℕ → Option ℕ
call_of calls remote = find (λ s. is_call_of remote (at calls s)) (ids_of calls)

unfoldable pub session_named : List (ℕ × Call) → ℕ → ℕ → ℕ
session_named calls session remote =
    if session == 0 then (if remote == 0 then 0 else unwrap_or (call_of calls remote) 0) else session

-- the session of a call that the peer asks for, or the first cause for which there can be none: this end takes no calls; the
-- peer's id is no id, or that of a call of the tunnel; the tunnel has as many calls as it may; there is no id left
abbrev pub left_of : Result ℕ IdError → Result ℕ Reason
left_of (Ok s) = Ok s
left_of (Err e) = Err (reason cause.Ids facilities_lacking None)

unfoldable pub granted : Role → List (ℕ × Call) → ℕ → Space → Result ℕ Reason
granted role calls remote sessions =
    if not (is_reply (row_of_none role call_event.IcrqAcc).1) then Err out_of_state
    else if remote == 0 || is_some (call_of calls remote) then Err (reason cause.Session general_error (Some invalid_session))
    else if are_too_many calls then Err (reason cause.Calls facilities_lacking None)
    else left_of (takes_id sessions)

-- the peer asks for a call: it is made, and the peer is told its session
unfoldable pub replied : Role → ℕ → ℕ → Turn → Turn
replied role remote s t =
    gives remote (Icrp s)
    (with_move (move.Replied (record { tunnel = t.control.local; peer = t.control.peer; session = s; remote = remote; taken = taken_place t.control; given = next_place t.control }))
    (with_new s (asked_for role remote t.on.moment) (takes_one t)))

unfoldable pub replies : Role → ℕ → ℕ → Turn → Turn
replies role remote s t = if has_room t.control then replied role remote s t else drops why.Queue t

-- the request for a call; one that names a call is out of state, whatever else would stand against it
unfoldable pub asked_by : Role → ℕ → ℕ → Result ℕ Reason → Option Call → Turn → Turn
asked_by role s remote g (Some c) t = answers_by out_of_state s c (row_for role c call_event.IcrqAcc).1 t
asked_by role s remote (Ok drawn) None t = replies role remote drawn t
asked_by role s remote (Err r) None t = refuses r remote t
