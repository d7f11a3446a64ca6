-- The table of a tunnel's automaton (RFC 2661 section 7.2), as rows.
use Rattle.std.specs.Prelude.{ℕ, Bool, true, ◌==◌, ◌&&◌, not, if◌then◌else◌, List, [], ◌∷◌}
use Rattle.std.specs.List.{list_any}
use Rattle.tunnel_fsm.specs.declared.table.TunnelState.{TunnelState}
use Rattle.tunnel_fsm.specs.declared.table.TunnelState.TheVariants.{Idle, WaitCtlReply, WaitCtlConn, Established, Closed}
use Rattle.tunnel_fsm.specs.declared.table.TunnelEvent.{TunnelEvent}
use Rattle.tunnel_fsm.specs.declared.table.TunnelEvent.TheVariants.{LocalOpen, SccrqAcc, SccrqNotAcc, SccrpAcc, SccrpNotAcc, ScccnAcc, ScccnNotAcc, AdminClose, StopCcnCame}
use Rattle.tunnel_fsm.specs.declared.table.TunnelAction.{TunnelAction}
use Rattle.tunnel_fsm.specs.declared.table.TunnelAction.TheVariants.{Nothing, SendSccrq, SendSccrp, SendScccn, SendStopCcn, CleanUp}

-- from one of these states, on one of these events
pub record Row : Type 0 where
  pub from : List TunnelState
  pub on : List TunnelEvent
  pub action : TunnelAction
  pub next : TunnelState

abbrev pub row : List TunnelState → List TunnelEvent → TunnelAction → TunnelState → Row
row f o a n = record { from = f; on = o; action = a; next = n }

abbrev pub rows : List Row
rows =
    row (Idle ∷ []) (LocalOpen ∷ []) SendSccrq WaitCtlReply
    ∷ row (Idle ∷ []) (SccrqAcc ∷ []) SendSccrp WaitCtlConn
    ∷ row (Idle ∷ []) (SccrqNotAcc ∷ SccrpAcc ∷ SccrpNotAcc ∷ []) SendStopCcn Idle
    ∷ row (Idle ∷ []) (ScccnAcc ∷ ScccnNotAcc ∷ []) CleanUp Idle
    ∷ row (WaitCtlReply ∷ []) (SccrpAcc ∷ []) SendScccn Established
    ∷ row (WaitCtlReply ∷ []) (SccrpNotAcc ∷ ScccnAcc ∷ ScccnNotAcc ∷ SccrqAcc ∷ SccrqNotAcc ∷ []) SendStopCcn Closed
    ∷ row (WaitCtlConn ∷ []) (ScccnAcc ∷ []) Nothing Established
    ∷ row (WaitCtlConn ∷ []) (ScccnNotAcc ∷ SccrqAcc ∷ SccrqNotAcc ∷ SccrpAcc ∷ SccrpNotAcc ∷ []) SendStopCcn Closed
    ∷ row (Established ∷ []) (SccrqAcc ∷ SccrqNotAcc ∷ SccrpAcc ∷ SccrpNotAcc ∷ ScccnAcc ∷ ScccnNotAcc ∷ []) SendStopCcn Closed
    ∷ row (Idle ∷ WaitCtlReply ∷ WaitCtlConn ∷ Established ∷ []) (AdminClose ∷ []) SendStopCcn Closed
    ∷ row (Idle ∷ WaitCtlReply ∷ WaitCtlConn ∷ Established ∷ Closed ∷ []) (StopCcnCame ∷ []) CleanUp Closed
    ∷ []

-- to tell states and events apart
abbrev pub state_number : TunnelState → ℕ
state_number Idle = 0
state_number WaitCtlReply = 1
state_number WaitCtlConn = 2
state_number Established = 3
state_number Closed = 4

abbrev pub event_number : TunnelEvent → ℕ
event_number LocalOpen = 0
event_number SccrqAcc = 1
event_number SccrqNotAcc = 2
event_number SccrpAcc = 3
event_number SccrpNotAcc = 4
event_number ScccnAcc = 5
event_number ScccnNotAcc = 6
event_number AdminClose = 7
event_number StopCcnCame = 8

abbrev pub is_for : Row → TunnelState → TunnelEvent → Bool
is_for r s e = list_any (λ x. state_number x == state_number s) r.from && list_any (λ x. event_number x == event_number e) r.on

-- the next state and the action by the first row that fits; a pair without a row changes nothing
abbrev pub row_of : List Row → TunnelState → TunnelEvent → TunnelState × TunnelAction
row_of [] s e = (s, Nothing)
row_of (r ∷ rs) s e = if is_for r s e then (r.next, r.action) else row_of rs s e

-- the first row that fits is the last
abbrev pub none_for : TunnelState → TunnelEvent → List Row → Bool
none_for s e rs = not (list_any (λ r. is_for r s e) rs)

abbrev pub one_row_at_most : TunnelState → TunnelEvent → List Row → Bool
one_row_at_most s e [] = true
one_row_at_most s e (r ∷ rs) = if is_for r s e then none_for s e rs else one_row_at_most s e rs
