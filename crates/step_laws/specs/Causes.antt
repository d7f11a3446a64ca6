-- What each cause that a step tells says of the end before the step and of what came, and that no cause stands which counts before it.
use Rattle.std.specs.Prelude.{◌≡◌, ◌⊎◌, ℕ, Bool, true, false, List, Option, Some, None, is_some, Ok, Err}
use Rattle.id_table.specs.Ids.{at}
use Rattle.id_source.specs.declared.IdError.{IdError}
use Rattle.id_source.specs.Spaces.{takes_id}
use Rattle.wire_base.specs.declared.cause.Cause.{Cause as CauseOf}
use Rattle.wire_base.specs.declared.cause.Cause.TheVariants as cause
use Rattle.wire_base.specs.declared.pair.Pair.{Pair}
use Rattle.end_model.specs.Querying.{told_at}
use Rattle.control_message.specs.declared.kind.Kind.{Kind}
use Rattle.control_message.specs.declared.kind.Kind.TheVariants as kind
use Rattle.control_message.specs.declared.message.Message.{Message}
use Rattle.control_message.specs.declared.message.Message.TheVariants.{Sccrq, Sccrp, Scccn, Ocrq, Icrq, Icrp, Iccn, Fsr}
use Rattle.control_message.specs.declared.message.Opening.{Opening}
use Rattle.call_fsm.specs.declared.table.CallEvent.{CallEvent}
use Rattle.call_fsm.specs.declared.table.CallEvent.TheVariants as call_event
use Rattle.tunnel_fsm.specs.declared.table.TunnelState.TheVariants as state
use Rattle.tunnel_fsm.specs.declared.table.TunnelEvent.{TunnelEvent}
use Rattle.tunnel_fsm.specs.declared.table.TunnelEvent.TheVariants as event
use Rattle.tunnel_fsm.specs.declared.table.TunnelAction.TheVariants as action
use Rattle.tunnel_fsm.specs.Rows.{rows, row_of, state_number}
use Rattle.end_names.specs.declared.role.Role.TheVariants.{Lac, Lns}
use Rattle.end_model.specs.declared.event.Event.{Event}
use Rattle.end_model.specs.declared.event.Event.TheVariants.{Datagram, Hang, OpenTunnel, DropCall, CloseTunnel}
use Rattle.end_model.specs.declared.out.Out.TheVariants.{Cause}
use Rattle.end_model.specs.declared.tunnel.Call.{Call}
use Rattle.end_model.specs.Reading.{message_in, at_zero}
use Rattle.end_model.specs.Calls.{row_for, is_told}
use Rattle.end_model.specs.Tunnels.{Tunnel, Recovering, ByAnswer, connection_of, mode_of, is_current}
use Rattle.end_model.specs.Messages.{is_acceptable}
use Rattle.end_model.specs.declared.event.Addressee.TheVariants.{Opens, Answers}
use Rattle.l2tp_header.specs.declared.header.Header.{Header}
use Rattle.l2tp_header.specs.Reading.{header_of, body_of}
use Rattle.end_model.specs.End.{End, plain_step}
use Rattle.step_laws.specs.Letters.{Among}
use Rattle.step_laws.specs.Moves.{IsNamed, HearsLine, has_all_tunnels, has_all_calls, may_take, IsIdInUse, IsRight, LacksSecret, IsUnknown, TookTooLong, Came, IsNext, HearsNext}
use Rattle.step_laws.specs.Links.{EndsCall}
use Rattle.control_message.specs.declared.message.Recovery.{Recovery}
use Rattle.recovery_tunnel.specs.Answers.{Answering}
use Rattle.recovery_tunnel.specs.declared.progress.Progress.TheVariants as progress
use Rattle.end_model.specs.Recovering.{told_by, told_by_fault, cause_in}
use Rattle.step_laws.specs.Faults.{TellsFault, IsOf, IsAboutCall, CantBeAnswered, IsEventOf}
use Rattle.step_laws.specs.Steps.{AreKept}
use Rattle.step_laws.specs.Room.{RingsOver, RingsNew, RingsInRecovery}

-- ---- calls that end

-- a live call whose table has the peer told on such an event
pub record IsTold (e : End) (t : Tunnel) (s : ℕ) (on : CallEvent) : Type 0 where
  pub id : ℕ
  pub there : at e.tunnels id ≡ Some t
  pub current : is_current (mode_of t.recovery) ≡ true
  pub call : Call
  pub live : at t.calls s ≡ Some call
  pub row : is_told (row_for e.role call on).1 ≡ true

-- it took too long to be set up
pub record IsLate (e : End) (moment : ℕ) (ev : Event) : Type 0 where
  pub id : ℕ
  pub tunnel : Tunnel
  pub there : at e.tunnels id ≡ Some tunnel
  pub current : is_current (mode_of tunnel.recovery) ≡ true
  pub session : ℕ
  pub call : Call
  pub live : at tunnel.calls session ≡ Some call
  pub late : TookTooLong ev moment call
  pub row : is_told (row_for e.role call call_event.Close).1 ≡ true

-- ---- messages about calls

-- the next letter came of an open tunnel, with the session id of its header
pub record CameAbout (e : End) (ev : Event) (t : Tunnel) (header : ℕ) (m : Message) : Type 0 where
  pub id : ℕ
  pub there : at e.tunnels id ≡ Some t
  pub current : is_current (mode_of t.recovery) ≡ true
  pub open_is : state_number t.control.state ≡ 3
  pub came : HearsNext ev t header m

-- one that has a fault of which this cause tells, and that a CDN can answer
pub record CameFaulty (e : End) (ev : Event) (c : CauseOf) : Type 0 where
  pub id : ℕ
  pub tunnel : Tunnel
  pub there : at e.tunnels id ≡ Some tunnel
  pub current : is_current (mode_of tunnel.recovery) ≡ true
  pub open_is : state_number tunnel.control.state ≡ 3
  pub letter : Came
  pub next : IsNext ev tunnel letter
  pub kind : Kind
  pub is_of : IsOf letter.body kind
  pub about : IsAboutCall kind
  pub fault : TellsFault letter.body c
  pub answered : CantBeAnswered letter.body kind c → ⊥

-- a request came for a call of this id of the peer's, and names none
pub record Asks (e : End) (ev : Event) (t : Tunnel) (remote : ℕ) : Type 0 where
  pub header : ℕ
  pub new : at t.calls header ≡ None
  pub serial : ℕ
  pub calling : Option (List ℕ)
  pub came : CameAbout e ev t header (Icrq remote serial calling)

-- this end replies to no request: it asks for calls itself
abbrev pub TakesNoCalls : End → Type 0
TakesNoCalls e = e.role ≡ Lac

-- none of the causes stands for which a request can't be granted
pub record MayBeGranted (e : End) (t : Tunnel) (remote : ℕ) : Type 0 where
  pub takes : TakesNoCalls e → ⊥
  pub free : IsIdInUse t remote → ⊥
  pub few : has_all_calls t.calls ≡ false
  pub ids : (x : IdError) → takes_id e.session_ids ≡ Err x → ⊥

-- a message that the table has no good use for: a request to an end that takes none, or that names a call; a reply to an end that
-- asks for none; a reply or a connection that comes to a call that doesn't wait for it
pub data IsOutOfState (e : End) (ev : Event) (t : Tunnel) : Type 0 where
  AskedInVain : (remote : ℕ) → Asks e ev t remote → TakesNoCalls e → IsOutOfState e ev t
  AskedAgain : (remote serial s : ℕ) (calling : Option (List ℕ)) → CameAbout e ev t s (Icrq remote serial calling) → IsTold e t s call_event.IcrqAcc
      → IsOutOfState e ev t
  RepliedInVain : (remote s : ℕ) → CameAbout e ev t s (Icrp remote) → ((at t.calls s ≡ None) × (e.role ≡ Lns)) ⊎ IsTold e t s call_event.IcrpAcc
      → IsOutOfState e ev t
  ConnectedInVain : (speed framing s : ℕ) (sequenced : Bool) → CameAbout e ev t s (Iccn speed framing sequenced) → IsTold e t s call_event.IccnAcc
      → IsOutOfState e ev t

-- ---- links (RFC 1661)

-- the link of a live call ends it for this cause, and its table has the peer told by a CDN
pub record IsEndedCall (e : End) (moment : ℕ) (ev : Event) (why : CauseOf) : Type 0 where
  pub id : ℕ
  pub tunnel : Tunnel
  pub there : at e.tunnels id ≡ Some tunnel
  pub current : is_current (mode_of tunnel.recovery) ≡ true
  pub session : ℕ
  pub call : Call
  pub live : at tunnel.calls session ≡ Some call
  pub ends : EndsCall ev moment tunnel.control session call why
  pub row : is_told (row_for e.role call call_event.Close).1 ≡ true

-- ---- tunnels that close

-- a tunnel that isn't closed, and whose table has it closed with a StopCCN on such an event
pub record IsClosedOn (e : End) (t : Tunnel) (on : TunnelEvent) : Type 0 where
  pub id : ℕ
  pub there : at e.tunnels id ≡ Some t
  pub current : is_current (mode_of t.recovery) ≡ true
  pub row : row_of rows t.control.state on ≡ (state.Closed, action.SendStopCcn)

-- the next letter of a tunnel came, and has a fault of which this cause tells, on which the tunnel's table has it closed; one about a call
-- is one that no CDN can answer
pub record CameClosing (e : End) (ev : Event) (c : CauseOf) : Type 0 where
  pub tunnel : Tunnel
  pub letter : Came
  pub next : IsNext ev tunnel letter
  pub fault : TellsFault letter.body c
  pub on : TunnelEvent
  pub event_is : IsEventOf letter.body on
  pub closed : IsClosedOn e tunnel on
  pub unanswered : (k : Kind) → IsOf letter.body k → IsAboutCall k → CantBeAnswered letter.body k c

-- a control message came that names no tunnel, from a peer
pub record NamesNone (ev : Event) (peer : ℕ) (body : List ℕ) : Type 0 where
  pub bytes : List ℕ
  pub is : ev ≡ Datagram peer bytes
  pub header : Header
  pub read : header_of bytes ≡ Ok header
  pub control : header.control ≡ true
  pub none : header.tunnel ≡ 0
  pub body_is : body ≡ body_of bytes header

-- an SCCRQ came that would open a tunnel: the peer's end has none here yet
pub record WouldOpen (e : End) (ev : Event) (o : Opening) : Type 0 where
  pub peer : ℕ
  pub body : List ℕ
  pub came : NamesNone ev peer body
  pub said : message_in body ≡ Ok (Sccrq o)
  pub ordinary : is_some o.recovery ≡ false
  pub alone : IsUnknown e peer o.tunnel

-- no recovery tunnel of this end answers the peer's attempt with this id yet
abbrev pub IsUnansweredYet : End → ℕ → ℕ → Type 0
IsUnansweredYet e peer remote = (i : ℕ) (t : Tunnel) (a : Answering) → at e.tunnels i ≡ Some t → t.control.peer ≡ peer → t.recovery ≡ Some (ByAnswer a)
    → a.connection.remote ≡ remote → ⊥

-- an SCCRQ came that asks for the recovery of a tunnel, and isn't answered yet
pub record WouldRecover (e : End) (ev : Event) (o : Opening) : Type 0 where
  pub peer : ℕ
  pub body : List ℕ
  pub came : NamesNone ev peer body
  pub said : message_in body ≡ Ok (Sccrq o)
  pub recovery : Recovery
  pub asks : o.recovery ≡ Some recovery
  pub alone : IsUnansweredYet e peer o.tunnel

-- the next letter came for a recovery tunnel, which refuses it for this cause
pub record IsRefusedOnLine (e : End) (ev : Event) (c : CauseOf) : Type 0 where
  pub id : ℕ
  pub tunnel : Tunnel
  pub there : at e.tunnels id ≡ Some tunnel
  pub recovery : Recovering
  pub has : tunnel.recovery ≡ Some recovery
  pub letter : Came
  pub hears : HearsLine ev tunnel.control.peer (connection_of recovery) letter
  pub refused : ((m : Message) × (message_in letter.body ≡ Ok m) × (told_by e.config.secret m recovery ≡ progress.Given c))
      ⊎ ((cause_in letter.body ≡ Some c) × (told_by_fault (Some c) recovery ≡ progress.Given c))

-- an opening that isn't acceptable: it came in a tunnel, which is closed, or would open one
pub data IsNotAccepted (e : End) (ev : Event) (o : Opening) : Type 0 where
  InSccrq : (t : Tunnel) (session : ℕ) → HearsNext ev t session (Sccrq o) → IsClosedOn e t event.SccrqNotAcc → IsNotAccepted e ev o
  InSccrp : (t : Tunnel) (session : ℕ) → HearsNext ev t session (Sccrp o) → IsClosedOn e t event.SccrpNotAcc → IsNotAccepted e ev o
  AtZero : WouldOpen e ev o → IsNotAccepted e ev o

-- it wants to recover a tunnel, of version 1.0
abbrev pub WantsRecovery : Opening → Type 0
WantsRecovery o = (o.version ≡ 256) × (is_some o.recovery ≡ true)

-- it is of version 1.0 and wants to recover none
abbrev pub IsOrdinary : Opening → Type 0
IsOrdinary o = (o.version ≡ 256) × (is_some o.recovery ≡ false)

-- a challenge of an SCCRQ that would open a tunnel counts only where there may be one more
abbrev pub MayOpen : End → Event → Opening → Type 0
MayOpen e ev o = WouldOpen e ev o → has_all_tunnels e ≡ false

-- an opening that asks this end, which has no secret; or an SCCRP, in a tunnel that it closes, that doesn't answer rightly what the
-- tunnel asked
pub data FailsBySecret (e : End) (ev : Event) (o : Opening) : Type 0 where
  AsksInVain : LacksSecret e.config.secret o.challenge → FailsBySecret e ev o
  AnswersWrongly : (t : Tunnel) (session : ℕ) → HearsNext ev t session (Sccrp o)
      → (IsRight 2 e.config.secret t.control.challenge o.response → ⊥) → FailsBySecret e ev o

-- an SCCCN that doesn't answer rightly what the tunnel asked, and closes it
pub record IsWronglyConnected (e : End) (ev : Event) : Type 0 where
  pub tunnel : Tunnel
  pub session : ℕ
  pub response : Option (List ℕ)
  pub came : HearsNext ev tunnel session (Scccn response)
  pub wrong : IsRight 3 e.config.secret tunnel.control.challenge response → ⊥
  pub closed : IsClosedOn e tunnel event.ScccnNotAcc

-- an SCCRQ that names no tunnel came, which would open one, and has a fault of which this cause tells
pub record CameFaultyOpening (e : End) (ev : Event) (c : CauseOf) : Type 0 where
  pub peer : ℕ
  pub remote : ℕ
  pub body : List ℕ
  pub came : NamesNone ev peer body
  pub opens : at_zero body ≡ Opens remote
  pub alone : IsUnknown e peer remote
  pub is_of : IsOf body kind.Sccrq
  pub fault : TellsFault body c

-- an FSR came that isn't the answer to what the tunnel asks for, and closes it
pub record CameUnasked (e : End) (ev : Event) : Type 0 where
  pub tunnel : Tunnel
  pub session : ℕ
  pub answers : List Pair
  pub came : HearsNext ev tunnel session (Fsr answers)
  pub place : ℕ
  pub differs : told_at tunnel.control.state tunnel.query answers ≡ Err place
  pub closed : IsClosedOn e tunnel event.AdminClose

-- an SCCRP that names none
pub record CameAnswer (ev : Event) : Type 0 where
  pub peer : ℕ
  pub remote : ℕ
  pub body : List ℕ
  pub came : NamesNone ev peer body
  pub answers : at_zero body ≡ Answers remote

-- one that is acceptable, or an SCCCN, came in a tunnel that doesn't wait for it
pub data IsOutOfOrder (e : End) (ev : Event) : Type 0 where
  AnSccrq : (t : Tunnel) (session : ℕ) (o : Opening) → HearsNext ev t session (Sccrq o) → is_acceptable e.config.secret None o ≡ true → IsClosedOn e t event.SccrqAcc
      → IsOutOfOrder e ev
  AnSccrp : (t : Tunnel) (session : ℕ) (o : Opening) → HearsNext ev t session (Sccrp o) → is_acceptable e.config.secret t.control.challenge o ≡ true → IsClosedOn e t event.SccrpAcc
      → IsOutOfOrder e ev
  AnScccn : (t : Tunnel) (session : ℕ) (response : Option (List ℕ)) → HearsNext ev t session (Scccn response)
      → IsRight 3 e.config.secret t.control.challenge response → IsClosedOn e t event.ScccnAcc → IsOutOfOrder e ev

-- ---- the causes

-- a space of ids is at its end, and a ring, the opening of a tunnel or a request wants one of it
pub data LackIds (e : End) (ev : Event) : Type 0 where
  ForRing : (t : Tunnel) (x : IdError) → RingsOver e ev t → has_all_calls t.calls ≡ false → may_take t.control t.calls ≡ true
      → takes_id e.session_ids ≡ Err x → LackIds e ev
  ForNew : RingsNew e ev → has_all_tunnels e ≡ false → ((x : IdError) × (takes_id e.session_ids ≡ Err x)) ⊎ ((x : IdError) × (takes_id e.tunnel_ids ≡ Err x)) → LackIds e ev
  ForOpening : (x : IdError) → ev ≡ OpenTunnel → has_all_tunnels e ≡ false → takes_id e.tunnel_ids ≡ Err x → LackIds e ev
  ForRequest : (t : Tunnel) (remote : ℕ) (x : IdError) → Asks e ev t remote → (TakesNoCalls e → ⊥) → (IsIdInUse t remote → ⊥)
      → has_all_calls t.calls ≡ false
      → takes_id e.session_ids ≡ Err x → LackIds e ev
  ForPeer : (o : Opening) (x : IdError) → WouldOpen e ev o → is_acceptable e.config.secret None o ≡ true → has_all_tunnels e ≡ false
      → takes_id e.tunnel_ids ≡ Err x → LackIds e ev
  ForAnswer : (o : Opening) (x : IdError) (w : WouldRecover e ev o) → o.version ≡ 256 → IsNamed e w.peer w.recovery
      → (LacksSecret e.config.secret o.challenge → ⊥) → (takes_id e.tunnel_ids ≡ Err x) ⊎ (takes_id e.recovery_ids ≡ Err x) → LackIds e ev

-- what a cause says; those that aren't told yet say nothing that can be so
abbrev pub Stands : End → ℕ → Event → CauseOf → Type 0
Stands e moment ev cause.Operator =
    ((s : ℕ) × (t : Tunnel) × (ev ≡ DropCall s) × IsTold e t s call_event.Close)
    ⊎ ((i : ℕ) × (t : Tunnel) × (ev ≡ CloseTunnel i) × (at e.tunnels i ≡ Some t) × IsClosedOn e t event.AdminClose)
Stands e moment ev cause.Line = (s : ℕ) × (t : Tunnel) × (ev ≡ Hang s) × IsTold e t s call_event.LineDrop
Stands e moment ev cause.Setup = IsLate e moment ev
Stands e moment ev cause.Lcp = IsEndedCall e moment ev cause.Lcp
Stands e moment ev cause.Avp = CameClosing e ev cause.Avp ⊎ IsRefusedOnLine e ev cause.Avp
Stands e moment ev cause.Value =
    CameFaulty e ev cause.Value ⊎ (CameClosing e ev cause.Value ⊎ (CameFaultyOpening e ev cause.Value ⊎ IsRefusedOnLine e ev cause.Value))
Stands e moment ev cause.Mandatory =
    CameFaulty e ev cause.Mandatory ⊎ (CameClosing e ev cause.Mandatory ⊎ (CameFaultyOpening e ev cause.Mandatory ⊎ IsRefusedOnLine e ev cause.Mandatory))
Stands e moment ev cause.Version =
    ((o : Opening) × (IsNotAccepted e ev o ⊎ WouldRecover e ev o) × (o.version ≡ 256 → ⊥)) ⊎ IsRefusedOnLine e ev cause.Version
Stands e moment ev cause.Recover =
    ((o : Opening) × IsNotAccepted e ev o × WantsRecovery o)
    ⊎ ((o : Opening) × (w : WouldRecover e ev o) × (o.version ≡ 256) × (IsNamed e w.peer w.recovery → ⊥))
Stands e moment ev cause.Secret =
    ((o : Opening) × IsNotAccepted e ev o × IsOrdinary o × FailsBySecret e ev o × MayOpen e ev o)
    ⊎ (IsWronglyConnected e ev
    ⊎ (((o : Opening) × (w : WouldRecover e ev o) × (o.version ≡ 256) × IsNamed e w.peer w.recovery × LacksSecret e.config.secret o.challenge)
    ⊎ IsRefusedOnLine e ev cause.Secret))
Stands e moment ev cause.State = ((t : Tunnel) × IsOutOfState e ev t) ⊎ (IsOutOfOrder e ev ⊎ (CameAnswer ev ⊎ IsRefusedOnLine e ev cause.State))
Stands e moment ev cause.Session = (t : Tunnel) × (remote : ℕ) × Asks e ev t remote × (TakesNoCalls e → ⊥) × IsIdInUse t remote
Stands e moment ev cause.Calls =
    ((t : Tunnel) × RingsOver e ev t × (has_all_calls t.calls ≡ true))
    ⊎ ((t : Tunnel) × (remote : ℕ) × Asks e ev t remote × (TakesNoCalls e → ⊥) × (IsIdInUse t remote → ⊥) × (has_all_calls t.calls ≡ true))
Stands e moment ev cause.Queue = (t : Tunnel) × RingsOver e ev t × (has_all_calls t.calls ≡ false) × (may_take t.control t.calls ≡ false)
Stands e moment ev cause.Ids = LackIds e ev
Stands e moment ev cause.Recovering = RingsInRecovery e ev
Stands e moment ev cause.Tunnels =
    (RingsNew e ev ⊎ ((ev ≡ OpenTunnel) ⊎ ((o : Opening) × WouldOpen e ev o × IsOrdinary o))) × (has_all_tunnels e ≡ true)
Stands e moment ev cause.Outgoing = (t : Tunnel) × (header : ℕ) × (remote : ℕ) × CameAbout e ev t header (Ocrq remote)
Stands e moment ev cause.Query = CameUnasked e ev
Stands e moment ev c = ⊥

-- in each step of an end whose tunnels are kept, each cause that is told stands
abbrev pub CausesStand : Type 0
CausesStand = (e : End) → AreKept e → (moment : ℕ) (block : List ℕ) (ev : Event) (c : CauseOf) → Among (Cause c) (plain_step e moment block ev).outputs
    → Stands e moment ev c
