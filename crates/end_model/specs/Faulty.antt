-- Faulty letters about a call.
use Rattle.std.specs.Prelude.{ℕ, List, if◌then◌else◌, Option, Some, None, unwrap_or}
use Rattle.id_table.specs.Ids.{at}
use Rattle.wire_base.specs.declared.why.Why.TheVariants as why
use Rattle.wire_base.specs.declared.cause.Cause.{Cause as CauseOf}
use Rattle.control_message.specs.declared.kind.Kind.{Kind}
use Rattle.control_message.specs.declared.kind.Kind.TheVariants as kind
use Rattle.call_fsm.specs.declared.table.CallEvent.{CallEvent}
use Rattle.call_fsm.specs.declared.table.CallEvent.TheVariants as call_event
use Rattle.call_fsm.specs.declared.table.CallAction.{CallAction}
use Rattle.call_fsm.specs.declared.table.CallAction.TheVariants as call_action
use Rattle.end_model.specs.declared.tunnel.Call.{Call}
use Rattle.end_names.specs.declared.role.Role.{Role}
use Rattle.end_model.specs.Tunnels.{Turn}
use Rattle.end_model.specs.Reasons.{Reason, fault_reason}
use Rattle.end_model.specs.Reading.{CallFault}
use Rattle.end_model.specs.Calls.{row_for, row_of_none}
use Rattle.end_model.specs.Sending.{ignores}
use Rattle.end_model.specs.Refusing.{answers_by, refuses, of_no_call}
use Rattle.end_model.specs.Asking.{session_named}
use Rattle.end_model.specs.Moments.{is_open}

-- of a call that there is, or of one that there isn't, by the table's rows for these events
unfoldable pub faulty_at : Role → Reason → ℕ → ℕ → CallEvent → CallAction → Option Call → Turn → Turn
faulty_at role r s remote e none None t = of_no_call r remote none t
faulty_at role r s remote e none (Some c) t = answers_by r s c (row_for role c e).1 t

unfoldable pub faulty : Role → List (ℕ × Call) → ℕ → Kind → CauseOf → Option ℕ → Turn → Turn
faulty role calls session kind.Icrq c told t =
    faulty_at role (fault_reason c) session (unwrap_or told 0) call_event.IcrqNotAcc call_action.SendCdn (at calls session) t
faulty role calls session kind.Ocrq c told t = refuses (fault_reason c) (unwrap_or told 0) t
faulty role calls session kind.Icrp c told t =
    faulty_at role (fault_reason c) session (unwrap_or told 0) call_event.IcrpNotAcc (row_of_none role call_event.IcrpNotAcc).1 (at calls session) t
faulty role calls session kind.Iccn c told t =
    faulty_at role (fault_reason c) session 0 call_event.IccnNotAcc (row_of_none role call_event.IccnNotAcc).1 (at calls session) t
faulty role calls session kind.Cdn c told t =
    faulty_at role (fault_reason c) (session_named calls session (unwrap_or told 0)) 0 call_event.Close
    (row_of_none role call_event.CdnCame).1 (at calls (session_named calls session (unwrap_or told 0))) t
-- a WEN or an SLI
faulty role calls session k c told t =
    faulty_at role (fault_reason c) session 0 call_event.Close call_action.Nothing (at calls session) t

-- only an open tunnel carries calls
unfoldable pub in_faulty_call : Role → List (ℕ × Call) → ℕ → CallFault → Turn → Turn
in_faulty_call role calls session f t =
    if is_open t.control.state then faulty role calls session f.kind f.cause f.session t else ignores why.Session t
