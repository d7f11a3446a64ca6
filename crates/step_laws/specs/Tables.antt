-- What the tables want on the next letter is done in the step that takes it: on one about a call, and on one that has a fault.
use Rattle.std.specs.Prelude.{◌≡◌, ◌⊎◌, ℕ, true, false, List, Option, Some, None, unwrap_or, Result, Ok, Err}
use Rattle.id_table.specs.Ids.{at}
use Rattle.wire_base.specs.declared.why.Why.{Why}
use Rattle.control_message.specs.declared.message.Message.{Message}
use Rattle.control_message.specs.declared.message.Message.TheVariants.{Icrq, Icrp, Iccn}
use Rattle.control_message.specs.declared.kind.Kind.{Kind}
use Rattle.control_message.specs.declared.kind.Kind.TheVariants as kind
use Rattle.tunnel_fsm.specs.declared.table.TunnelState.TheVariants as state
use Rattle.tunnel_fsm.specs.declared.table.TunnelAction.TheVariants as action
use Rattle.tunnel_fsm.specs.Rows.{rows, row_of, state_number}
use Rattle.call_fsm.specs.declared.table.CallAction.{CallAction}
use Rattle.call_fsm.specs.declared.table.CallEvent.{CallEvent}
use Rattle.call_fsm.specs.declared.table.CallEvent.TheVariants as call_event
use Rattle.end_model.specs.declared.tunnel.Call.{Call}
use Rattle.end_names.specs.declared.role.Role.TheVariants.{Lns}
use Rattle.end_model.specs.declared.event.Event.{Event}
use Rattle.end_model.specs.declared.moves.EndTold.{EndTold}
use Rattle.end_model.specs.declared.moves.EndSilent.{EndSilent}
use Rattle.end_model.specs.declared.moves.Refused.{Refused}
use Rattle.end_model.specs.declared.moves.Closed.{Closed}
use Rattle.end_model.specs.declared.moves.Rejected.{Rejected}
use Rattle.end_model.specs.declared.moves.ClosedBy.{ClosedBy}
use Rattle.end_model.specs.declared.moves.TookPlain.{TookPlain}
use Rattle.end_model.specs.declared.moves.Move.{Move}
use Rattle.end_model.specs.declared.moves.Move.TheVariants as move
use Rattle.end_model.specs.Reading.{message_in, CallFault, call_fault_in, TunnelFault, tunnel_fault_in}
use Rattle.end_model.specs.Calls.{row_for, is_told, is_clean_up}
use Rattle.end_model.specs.Tunnels.{Tunnel, mode_of, is_current}
use Rattle.end_model.specs.Channels.{counts_acked}
use Rattle.end_model.specs.Reasons.{fault_error}
use Rattle.end_model.specs.Moments.{is_closed}
use Rattle.end_model.specs.Asking.{session_named}
use Rattle.end_model.specs.End.{End, plain_step}
use Rattle.step_laws.specs.Letters.{Among}
use Rattle.step_laws.specs.Moves.{may_take, Came, IsNext, fault_event}
use Rattle.step_laws.specs.Left.{AreSound}
use Rattle.step_laws.specs.Steps.{AreKept}

-- ---- moves that do what a row wants

-- a call of a tunnel ends by a CDN with these codes
pub record EndsTold (i s result : ℕ) (error : Option ℕ) (ms : List Move) : Type 0 where
  pub told : EndTold
  pub there : Among (move.EndTold told) ms
  pub tunnel : told.tunnel ≡ i
  pub session : told.session ≡ s
  pub result_is : told.result ≡ result
  pub error_is : told.error ≡ error

-- or without a word
pub record EndsSilent (i s : ℕ) (ms : List Move) : Type 0 where
  pub silent : EndSilent
  pub there : Among (move.EndSilent silent) ms
  pub tunnel : silent.tunnel ≡ i
  pub session : silent.session ≡ s

-- a CDN with these codes goes to a session of the peer's, and names none of this end
pub record IsRefused (i remote result : ℕ) (error : Option ℕ) (ms : List Move) : Type 0 where
  pub refused : Refused
  pub there : Among (move.Refused refused) ms
  pub tunnel : refused.tunnel ≡ i
  pub remote_is : refused.remote ≡ remote
  pub result_is : refused.result ≡ result
  pub error_is : refused.error ≡ error

-- the tunnel is closed by a StopCCN with these codes
pub data IsStopped (i result : ℕ) (error : Option ℕ) (ms : List Move) : Type 0 where
  ByClosing : (m : Closed) → Among (move.Closed m) ms → m.tunnel ≡ i → m.result ≡ result → m.error ≡ error → IsStopped i result error ms
  ByRejecting : (m : Rejected) → Among (move.Rejected m) ms → m.tunnel ≡ i → m.result ≡ result → m.error ≡ error → IsStopped i result error ms

-- ---- rows

-- the row of a live call has its peer told, or has it cleaned up, or wants neither
pub record RowIsDone (a : CallAction) (i s result : ℕ) (error : Option ℕ) (ms : List Move) : Type 0 where
  pub told : is_told a ≡ true → EndsTold i s result error ms
  pub silent : is_clean_up a ≡ true → EndsSilent i s ms

-- in an open tunnel the live call of a session, which has this event
abbrev pub CallIsDone : End → Tunnel → ℕ → ℕ → CallEvent → ℕ → Option ℕ → List Move → Type 0
CallIsDone e t i s on result error ms = (c : Call) → at t.calls s ≡ Some c → RowIsDone (row_for e.role c on).1 i s result error ms

-- a CDN whose header names no call is for the one whose other id it tells
abbrev pub session_meant : Kind → Tunnel → ℕ → Option ℕ → ℕ
session_meant kind.Cdn t session told = session_named t.calls session (unwrap_or told 0)
session_meant k t session told = session

-- a fault of a letter about a call: the call ends by its row, whatever the letter is but an OCRQ; an ICRQ for no call, an ICRP at an LNS for none,
-- and an OCRQ are refused
pub record FaultIsDone (e : End) (t : Tunnel) (i session : ℕ) (f : CallFault) (ms : List Move) : Type 0 where
  pub live : (f.kind ≡ kind.Ocrq → ⊥)
      → CallIsDone e t i (session_meant f.kind t session f.session) (fault_event f.kind) 2 (Some (fault_error f.cause)) ms
  pub none : at t.calls session ≡ None → (f.kind ≡ kind.Icrq) ⊎ ((f.kind ≡ kind.Icrp) × (e.role ≡ Lns))
      → IsRefused i (unwrap_or f.session 0) 2 (Some (fault_error f.cause)) ms
  pub outgoing : f.kind ≡ kind.Ocrq → IsRefused i (unwrap_or f.session 0) 2 (Some (fault_error f.cause)) ms

-- a fault of another: by the row of the tunnel's table
pub record TunnelIsDone (t : Tunnel) (i : ℕ) (g : TunnelFault) (ms : List Move) : Type 0 where
  pub stopped : row_of rows t.control.state g.event ≡ (state.Closed, action.SendStopCcn) → IsStopped i 2 (Some (fault_error g.cause)) ms
  pub cleaned : row_of rows t.control.state g.event ≡ (state.Closed, action.CleanUp) → (m : ClosedBy) × Among (move.ClosedBy m) ms × (m.tunnel ≡ i)

abbrev pub FaultsAreDone : End → Tunnel → ℕ → ℕ → Option CallFault → Option TunnelFault → List Move → Type 0
FaultsAreDone e t i session (Some f) g ms = state_number t.control.state ≡ 3 → FaultIsDone e t i session f ms
FaultsAreDone e t i session None (Some g) ms = TunnelIsDone t i g ms
FaultsAreDone e t i session None None ms = Unit {0}

-- what a letter says, in a tunnel that isn't closed, by the session id of its header
abbrev pub LetterIsDone : End → Tunnel → ℕ → ℕ → Option CallFault → Option TunnelFault → Result Message Why → List Move → Type 0
LetterIsDone e t i session f g (Err w) ms = FaultsAreDone e t i session f g ms
LetterIsDone e t i session f g (Ok (Icrq remote serial calling)) ms =
    state_number t.control.state ≡ 3 → CallIsDone e t i session call_event.IcrqAcc 2 (Some 5) ms
LetterIsDone e t i session f g (Ok (Icrp remote)) ms = state_number t.control.state ≡ 3 → CallIsDone e t i session call_event.IcrpAcc 2 (Some 5) ms
LetterIsDone e t i session f g (Ok (Iccn speed framing sequenced)) ms =
    state_number t.control.state ≡ 3 → CallIsDone e t i session call_event.IccnAcc 2 (Some 5) ms
LetterIsDone e t i session f g (Ok m) ms = Unit {0}

-- ---- each step

-- the next letter of the peer of a tunnel that isn't closed, in the tunnel that its header names
pub record BringsNext (e : End) (ev : Event) : Type 0 where
  pub id : ℕ
  pub tunnel : Tunnel
  pub there : at e.tunnels id ≡ Some tunnel
  pub live : is_closed tunnel.control.state ≡ false
  pub current : is_current (mode_of tunnel.recovery) ≡ true
  pub letter : Came
  pub next : IsNext ev tunnel letter
  pub named : letter.header.tunnel ≡ id

-- the tunnel takes it once Nr is read; or the step takes it plainly, as a letter that changes nothing by itself
abbrev pub IsTaken : (e : End) (moment : ℕ) (ev : Event) → BringsNext e ev → List Move → Type 0
IsTaken e moment ev r ms =
    (may_take (counts_acked (unwrap_or r.letter.header.nr 0) moment r.tunnel.control) r.tunnel.calls ≡ true)
    ⊎ ((m : TookPlain) × Among (move.TookPlain m) ms)

-- then the step does what the tables want on it
abbrev pub TablesAreDone : Type 0
TablesAreDone = (e : End) → AreKept e → AreSound e → (moment : ℕ) (block : List ℕ) (ev : Event) (r : BringsNext e ev)
    → IsTaken e moment ev r (plain_step e moment block ev).moves
    → LetterIsDone e r.tunnel r.id r.letter.header.session (call_fault_in r.letter.body) (tunnel_fault_in r.letter.body) (message_in r.letter.body)
    (plain_step e moment block ev).moves
