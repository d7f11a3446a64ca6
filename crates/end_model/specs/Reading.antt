-- What a datagram says.
use Rattle.std.specs.Prelude.{ℕ, ◌==◌, ◌&&◌, not, Bool, true, false, List, if◌then◌else◌, Option, Some, None, is_some, is_none, unwrap_or, Result, Ok, Err}
use Rattle.wire_base.specs.declared.why.Why.{Why}
use Rattle.wire_base.specs.declared.why.Why.TheVariants as why
use Rattle.wire_base.specs.declared.cause.Cause.{Cause}
use Rattle.wire_base.specs.declared.cause.Cause.TheVariants as cause
use Rattle.avp_codec.specs.declared.avp.Avp.{Avp}
use Rattle.avp_codec.specs.declared.error.AvpError.{AvpError}
use Rattle.avp_codec.specs.Reading.{avps_of}
use Rattle.control_message.specs.declared.message.Message.{Message}
use Rattle.control_message.specs.declared.message.Message.TheVariants.{Sccrq, Sccrp, StopCcn}
use Rattle.control_message.specs.declared.message.Read.{Read}
use Rattle.control_message.specs.declared.message.Read.TheVariants.{Known, Ignored}
use Rattle.control_message.specs.declared.message.MessageError.{MessageError}
use Rattle.control_message.specs.declared.message.MessageError.TheVariants.{NoType, UnknownType, UnknownMandatory, HiddenWithoutVector, BadValue, Missing}
use Rattle.control_message.specs.declared.kind.Kind.{Kind}
use Rattle.control_message.specs.declared.kind.Kind.TheVariants as kind
use Rattle.control_message.specs.declared.kind.Kinds.TheVariants.{Queries}
use Rattle.control_message.specs.Reading.{message_by, kind_by, plain_short}
use Rattle.tunnel_fsm.specs.declared.table.TunnelEvent.{TunnelEvent}
use Rattle.tunnel_fsm.specs.declared.table.TunnelEvent.TheVariants as event
use Rattle.end_model.specs.declared.event.Addressee.{Addressee}
use Rattle.end_model.specs.declared.event.Addressee.TheVariants.{Opens, Recovers, Stops, Answers, Main, Nobody}

-- what pairs say to an end, and of which kind they are: it knows the messages of RFC 2661, and the queries of sessions of RFC 4951
abbrev pub message_said : List Avp → Result Read MessageError
message_said avps = message_by Queries avps

abbrev pub kind_said : List Avp → Option Kind
kind_said avps = kind_by Queries avps

-- the message that pairs make, or why it is ignored
unfoldable pub message_read : Result Read MessageError → Result Message Why
message_read (Ok (Known m)) = Ok m
message_read (Ok (Ignored n)) = Err why.Ignored
message_read (Err e) = Err why.Avp

unfoldable pub pairs_read : Result (List Avp) AvpError → Result Message Why
pairs_read (Ok avps) = message_read (message_said avps)
pairs_read (Err e) = Err why.Avp

unfoldable pub message_in : List ℕ → Result Message Why
message_in body = pairs_read (avps_of body)

-- ---- faults of messages about calls

-- a pair that has to be understood isn't, or a value is wrong or wanting
abbrev pub fault_cause : MessageError → Option Cause
fault_cause (UnknownMandatory v n) = Some cause.Mandatory
fault_cause (HiddenWithoutVector n) = Some cause.Value
fault_cause (BadValue n) = Some cause.Value
fault_cause (Missing n) = Some cause.Value
fault_cause e = None

-- those about calls
abbrev pub is_about_call : Kind → Bool
is_about_call kind.Icrq = true
is_about_call kind.Icrp = true
is_about_call kind.Iccn = true
is_about_call kind.Cdn = true
is_about_call kind.Wen = true
is_about_call kind.Sli = true
is_about_call kind.Ocrq = true
is_about_call k = false

-- a message about a call that has a fault, and the session id that it tells, where that can be read
pub record CallFault : Type 0 where
  pub kind : Kind
  pub cause : Cause
  pub session : Option ℕ

abbrev pub with_cause : Kind → Option ℕ → Option Cause → Option CallFault
with_cause k session None = None
with_cause k session (Some c) = Some (record { kind = k; cause = c; session = session })

-- a request whose value is wrong and that tells no session can't be answered by a CDN
abbrev pub is_request : Kind → Bool
is_request kind.Icrq = true
is_request kind.Ocrq = true
is_request k = false

abbrev pub is_value : Option Cause → Bool
is_value (Some cause.Value) = true
is_value c = false

-- it is about a call, and is answered by a CDN or by nothing
abbrev pub is_for_call : Kind → Option ℕ → Option Cause → Bool
is_for_call k session c = is_about_call k && not (is_request k && is_value c && is_none session)

abbrev pub fault_of_kind : Option Kind → MessageError → List Avp → Option CallFault
fault_of_kind None e avps = None
fault_of_kind (Some k) e avps =
    if is_for_call k (plain_short 14 avps) (fault_cause e) then with_cause k (plain_short 14 avps) (fault_cause e) else None

abbrev pub fault_read : List Avp → Result Read MessageError → Option CallFault
fault_read avps (Ok r) = None
fault_read avps (Err e) = fault_of_kind (kind_said avps) e avps

unfoldable pub fault_of_pairs : Result (List Avp) AvpError → Option CallFault
fault_of_pairs (Ok avps) = fault_read avps (message_said avps)
fault_of_pairs (Err e) = None

unfoldable pub call_fault_in : List ℕ → Option CallFault
call_fault_in body = fault_of_pairs (avps_of body)

-- ---- faults of messages about tunnels

-- what a faulty message is to the tunnel's table, why the tunnel is closed where its row says so, and the tunnel id that an SCCRP tells,
-- where that can be read, else 0
pub record TunnelFault : Type 0 where
  pub event : TunnelEvent
  pub cause : Cause
  pub remote : ℕ

-- of a message whose kind isn't known, and of one that isn't about the tunnel's set-up or end, the tunnel is closed
abbrev pub event_of_kind : Kind → TunnelEvent
event_of_kind kind.Sccrq = event.SccrqNotAcc
event_of_kind kind.Sccrp = event.SccrpNotAcc
event_of_kind kind.Scccn = event.ScccnNotAcc
event_of_kind kind.StopCcn = event.StopCcnCame
event_of_kind k = event.AdminClose

abbrev pub told_by_kind : Kind → List Avp → ℕ
told_by_kind kind.Sccrp avps = unwrap_or (plain_short 9 avps) 0
told_by_kind k avps = 0

abbrev pub closing : TunnelEvent → Cause → ℕ → TunnelFault
closing on c remote = record { event = on; cause = c; remote = remote }

abbrev pub closing_by : Kind → List Avp → Option Cause → Option TunnelFault
closing_by k avps None = None
closing_by k avps (Some c) = Some (closing (event_of_kind k) c (told_by_kind k avps))

abbrev pub tunnel_fault_of_kind : Option Kind → MessageError → List Avp → Option TunnelFault
tunnel_fault_of_kind None e avps = None
tunnel_fault_of_kind (Some k) e avps =
    if is_for_call k (plain_short 14 avps) (fault_cause e) then None else closing_by k avps (fault_cause e)

abbrev pub tunnel_fault_read : List Avp → Result Read MessageError → Option TunnelFault
tunnel_fault_read avps (Ok r) = None
tunnel_fault_read avps (Err NoType) = Some (closing event.AdminClose cause.Avp 0)
tunnel_fault_read avps (Err (UnknownType n)) = Some (closing event.AdminClose cause.Mandatory 0)
tunnel_fault_read avps (Err e) = tunnel_fault_of_kind (kind_said avps) e avps

unfoldable pub tunnel_fault_of_pairs : Result (List Avp) AvpError → Option TunnelFault
tunnel_fault_of_pairs (Ok avps) = tunnel_fault_read avps (message_said avps)
tunnel_fault_of_pairs (Err e) = Some (closing event.AdminClose cause.Avp 0)

unfoldable pub tunnel_fault_in : List ℕ → Option TunnelFault
tunnel_fault_in body = tunnel_fault_of_pairs (avps_of body)

-- ---- what a control message is for

-- a StopCCN is for the tunnel whose id it tells; one that tells none, or 0, is for none
abbrev pub stopped : Option ℕ → Addressee
stopped None = Nobody why.Tunnel
stopped (Some i) = if i == 0 then Nobody why.Tunnel else Stops i

-- an SCCRQ or an SCCRP that tells no id, or 0, can't be answered
abbrev pub told_or_none : (ℕ → Addressee) → Option ℕ → Addressee
told_or_none to None = Nobody why.Avp
told_or_none to (Some i) = if i == 0 then Nobody why.Avp else to i

-- one that is faulty, by its kind
abbrev pub zero_faulty : Option Kind → List Avp → Addressee
zero_faulty (Some kind.Sccrq) avps = told_or_none (λ i. Opens i) (plain_short 9 avps)
zero_faulty (Some kind.Sccrp) avps = told_or_none (λ i. Answers i) (plain_short 9 avps)
zero_faulty (Some kind.StopCcn) avps = stopped (plain_short 9 avps)
zero_faulty k avps = Nobody why.Tunnel

-- at tunnel 0, faulty or not: an SCCRQ opens a tunnel by the id that it assigns, or asks for the recovery of one, or is declined, an SCCRP is declined, a StopCCN is for
-- the tunnel that it tells, and every other message is for none
unfoldable pub zero_read : List Avp → Result Read MessageError → Addressee
zero_read avps (Ok (Known (Sccrq o))) = if is_some o.recovery then Recovers o.tunnel else Opens o.tunnel
zero_read avps (Ok (Known (Sccrp o))) = Answers o.tunnel
zero_read avps (Ok (Known (StopCcn tunnel code error))) = stopped (Some tunnel)
zero_read avps (Ok r) = Nobody why.Tunnel
zero_read avps (Err e) = zero_faulty (kind_said avps) avps

unfoldable pub zero_pairs : Result (List Avp) AvpError → Addressee
zero_pairs (Ok avps) = zero_read avps (message_said avps)
zero_pairs (Err e) = Nobody why.Avp

unfoldable pub at_zero : List ℕ → Addressee
at_zero body = zero_pairs (avps_of body)

-- whether a tunnel goes to a peer, where there is one, by the addresses of the peers
unfoldable pub at_tunnel : ℕ → ℕ → Option ℕ → Addressee
at_tunnel peer i None = Nobody why.Tunnel
at_tunnel peer i (Some p) = if p == peer then Main i else Nobody why.Peer
