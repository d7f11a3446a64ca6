-- Letters that connect a call, and that end it.
use Rattle.std.specs.Prelude.{ℕ, List, Bool, if◌then◌else◌, Option, Some, None}
use Rattle.id_table.specs.Ids.{at}
use Rattle.wire_base.specs.declared.why.Why.TheVariants as why
use Rattle.call_link.specs.Link.{Link, new_link}
use Rattle.call_link.specs.Turns.{Opens, linked}
use Rattle.call_fsm.specs.declared.table.CallEvent.TheVariants as call_event
use Rattle.end_model.specs.declared.tunnel.Call.{Call}
use Rattle.session_looks.specs.declared.look.CellChange.TheVariants as cell
use Rattle.end_names.specs.declared.role.Role.{Role}
use Rattle.end_model.specs.declared.moves.Move.TheVariants as move
use Rattle.end_model.specs.Tunnels.{Turn}
use Rattle.end_model.specs.Channels.{next_place, taken_place, has_room}
use Rattle.end_model.specs.Messages.{connection}
use Rattle.end_model.specs.Reasons.{out_of_state}
use Rattle.end_model.specs.Calls.{row_for, row_of_none, advanced, with_numbers, is_connection, is_up, is_clean_up}
use Rattle.end_model.specs.Links.{link_env, with_link}
use Rattle.end_model.specs.Turn.{with_move, with_change, with_call, drops, ends_call}
use Rattle.end_model.specs.Sending.{gives, takes_one, takes_plain}
use Rattle.end_model.specs.Refusing.{answers_by, of_no_call}
use Rattle.end_model.specs.Linking.{negotiated}

-- the peer's session is learned, and the call is connected and up
unfoldable pub first_up : Role → ℕ → ℕ → Call → Turn → Turn
first_up role s remote c t =
    gives remote connection
    (with_change (cell.Establish s)
    (with_move (move.FirstUp (record { tunnel = t.control.local; session = s; remote = remote; subscriber = c.subscriber; taken = taken_place t.control; given = next_place t.control }))
    (with_call s (advanced role call_event.IcrpAcc t.on.moment (record c { remote = remote }))
    (takes_one t))))

unfoldable pub first_up_by : Role → ℕ → ℕ → Option Call → Turn → Turn
first_up_by role s remote None t = of_no_call out_of_state remote (row_of_none role call_event.IcrpAcc).1 t
first_up_by role s remote (Some c) t =
    if is_connection (row_for role c call_event.IcrpAcc).1
    then (if has_room t.control then first_up role s remote c t else drops why.Queue t)
    else answers_by out_of_state s c (row_for role c call_event.IcrpAcc).1 t

-- the call is connected, and has its link
unfoldable pub second_up : Bool → ℕ → Call → Turn → Turn
second_up sequenced s c t =
    with_change (cell.Bind s t.control.local t.control.peer)
    (with_move (move.SecondUp (record { tunnel = t.control.local; session = s; remote = c.remote; sequenced = sequenced; taken = taken_place t.control }))
    (with_call s c
    (takes_one t)))

-- which is opened
unfoldable pub connects_call : Bool → ℕ → Call → Link → Turn → Turn
connects_call sequenced s c l t = negotiated s c (linked (link_env t.on) Opens l) (second_up sequenced s c t)

unfoldable pub linked_up : Role → Bool → ℕ → Call → Turn → Turn
linked_up role sequenced s c t =
    connects_call sequenced s (with_link (new_link (link_env t.on)) (with_numbers sequenced (advanced role call_event.IccnAcc t.on.moment c)))
    (new_link (link_env t.on)) t

unfoldable pub second_up_by : Role → Bool → ℕ → Option Call → Turn → Turn
second_up_by role sequenced s None t = of_no_call out_of_state 0 (row_of_none role call_event.IccnAcc).1 t
second_up_by role sequenced s (Some c) t =
    if is_up (row_for role c call_event.IccnAcc).0 then linked_up role sequenced s c t
    else answers_by out_of_state s c (row_for role c call_event.IccnAcc).1 t

-- the peer says that the call ended
unfoldable pub end_heard : ℕ → Bool → Turn → Turn
end_heard s booked t =
    with_move (move.EndHeard (record { tunnel = t.control.local; session = s; booked = booked; taken = taken_place t.control }))
    (ends_call s (takes_one t))

unfoldable pub end_heard_by : Role → ℕ → Option Call → Turn → Turn
end_heard_by role s None t = of_no_call out_of_state 0 (row_of_none role call_event.CdnCame).1 t
end_heard_by role s (Some c) t =
    if is_clean_up (row_for role c call_event.CdnCame).1 then end_heard s (is_up c.state) t else takes_plain t

unfoldable pub ends_named : Role → List (ℕ × Call) → ℕ → Turn → Turn
ends_named role calls s t = end_heard_by role s (at calls s) t
