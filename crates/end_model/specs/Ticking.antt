-- Time.
use Rattle.std.specs.Prelude.{ℕ, List, [], ◌∷◌, false, ◌==◌, ◌&&◌, nat_lt, if◌then◌else◌, Option, Some, None}
use Rattle.id_table.specs.Ids.{at, ids_of}
use Rattle.wire_base.specs.declared.cause.Cause.TheVariants as cause
use Rattle.wire_base.specs.declared.letter.Letter.{Letter}
use Rattle.control_message.specs.declared.message.Message.TheVariants.{Hello}
use Rattle.send_window.specs.declared.window.Tick.{Tick}
use Rattle.send_window.specs.declared.window.Tick.TheVariants as tick
use Rattle.control_channel.specs.Numbers.{answer_to_tick}
use Rattle.call_fsm.specs.declared.table.CallEvent.TheVariants as call_event
use Rattle.end_model.specs.declared.tunnel.Call.{Call}
use Rattle.end_names.specs.declared.role.Role.{Role}
use Rattle.end_model.specs.declared.moves.Move.TheVariants as move
use Rattle.end_model.specs.Tunnels.{Turn, is_current}
use Rattle.end_model.specs.Channels.{next_place}
use Rattle.end_model.specs.Moments.{is_over, patience, is_at_its_end, is_open}
use Rattle.end_model.specs.Calls.{row_for, is_set_up}
use Rattle.end_model.specs.Turn.{with_move}
use Rattle.end_model.specs.Sending.{gives, repeats, settles}
use Rattle.end_model.specs.Closing.{ends_by}
use Rattle.end_model.specs.Stopping.{clears}
use Rattle.end_model.specs.Linking.{ticks_link}
use Rattle.end_model.specs.Codes.{not_in_time}

-- a quiet tunnel of which nothing waits says that it is there (RFC 2661 section 6.5)
unfoldable pub greeted : List Letter → Turn → Turn
greeted letters t =
    settles false letters
    (gives 0 Hello (with_move (move.Greeted (record { tunnel = t.control.local; given = next_place t.control })) t))

unfoldable pub greets : List Letter → Turn → Turn
greets letters t =
    if is_open t.control.state && is_current t.on.mode && t.control.channel.window.queued == 0 && is_over patience t.on.moment t.control.heard
    then greeted letters t else t

-- a call that took too long to be set up ends; the LCP end of another has its timer
unfoldable pub limits_at : Role → List Letter → ℕ → Option Call → Turn → Turn
limits_at role letters s None t = t
limits_at role letters s (Some c) t =
    if nat_lt s 65536 && is_set_up c.state && is_over patience t.on.moment c.since
    then settles false letters (ends_by cause.Setup not_in_time None s c (row_for role c call_event.Close).1 t)
    else ticks_link role letters s c c.link t

unfoldable pub limits_all : Role → List Letter → List ℕ → List (ℕ × Call) → Turn → Turn
limits_all role letters [] calls t = t
limits_all role letters (s ∷ ss) calls t = limits_all role letters ss calls (limits_at role letters s (at calls s) t)

-- what stays of a tunnel whose channel hasn't failed
unfoldable pub goes_quietly : Role → List Letter → List (ℕ × Call) → Turn → Turn
goes_quietly role letters calls t = limits_all role letters (ids_of calls) calls (greets letters t)

unfoldable pub ticks_by : Role → List Letter → List (ℕ × Call) → Tick → Turn → Turn
ticks_by role letters calls tick.Quiet t = goes_quietly role letters calls t
ticks_by role letters calls (tick.Again number) t = goes_quietly role letters calls (repeats letters number t)
ticks_by role letters calls (tick.Failed first) t = clears calls t

-- each part prints and sends its own before the next
unfoldable pub ticks : Role → List Letter → List (ℕ × Call) → Turn → Turn
ticks role letters calls t =
    if is_at_its_end t.on.moment t.control then clears calls t
    else ticks_by role letters calls (answer_to_tick t.control.channel t.on.moment) t
