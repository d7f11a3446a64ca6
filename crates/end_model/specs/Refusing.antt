-- What is said of a call that there isn't, or that ends by a letter.
use Rattle.std.specs.Prelude.{ℕ, nat_lt, if◌then◌else◌}
use Rattle.wire_base.specs.declared.why.Why.TheVariants as why
use Rattle.control_message.specs.declared.message.Message.TheVariants.{Cdn}
use Rattle.call_fsm.specs.declared.table.CallAction.{CallAction}
use Rattle.call_fsm.specs.declared.table.CallAction.TheVariants as call_action
use Rattle.end_model.specs.declared.tunnel.Call.{Call}
use Rattle.end_model.specs.declared.out.Out.TheVariants.{Cause}
use Rattle.end_model.specs.declared.moves.Move.TheVariants as move
use Rattle.end_model.specs.Tunnels.{Turn}
use Rattle.end_model.specs.Channels.{next_place, taken_place, has_room}
use Rattle.end_model.specs.Reasons.{Reason}
use Rattle.end_model.specs.Turn.{with_output, with_move, drops}
use Rattle.end_model.specs.Sending.{gives, takes_one, takes_plain, ignores}
use Rattle.end_model.specs.Closing.{ends_by}

-- the call does what its table says on a letter, which is taken
unfoldable pub answers_by : Reason → ℕ → Call → CallAction → Turn → Turn
answers_by r s c a t = if nat_lt s 65536 then ends_by r.cause r.result r.error s c a (takes_plain t) else takes_plain t

-- there is no such call, as the peer is told: the CDN names none of this end's
unfoldable pub refused : Reason → ℕ → Turn → Turn
refused r remote t =
    gives remote (Cdn 0 r.result r.error)
    (with_move (move.Refused (record { tunnel = t.control.local; remote = remote; result = r.result; error = r.error; taken = taken_place t.control; given = next_place t.control }))
    (takes_one (with_output (Cause r.cause) t)))

unfoldable pub refuses : Reason → ℕ → Turn → Turn
refuses r remote t = if has_room t.control then refused r remote t else drops why.Queue t

-- what the table says of a call that there isn't
unfoldable pub of_no_call : Reason → ℕ → CallAction → Turn → Turn
of_no_call r remote call_action.SendCdn t = refuses r remote t
of_no_call r remote call_action.DropSession t = ignores why.Session t
of_no_call r remote a t = takes_plain t
