-- The tables of an incoming call's automata (RFC 2661 section 7.4), as rows.
use Rattle.std.specs.Prelude.{ℕ, Bool, true, ◌==◌, ◌&&◌, not, if◌then◌else◌, List, [], ◌∷◌}
use Rattle.std.specs.List.{list_any}
use Rattle.call_fsm.specs.declared.table.CallState.{CallState}
use Rattle.call_fsm.specs.declared.table.CallState.TheVariants.{Idle, WaitTunnel, WaitReply, WaitConnect, Established}
use Rattle.call_fsm.specs.declared.table.CallEvent.{CallEvent}
use Rattle.call_fsm.specs.declared.table.CallEvent.TheVariants.{Ring, TunnelOpen, IcrqAcc, IcrqNotAcc, IcrpAcc, IcrpNotAcc, IccnAcc, IccnNotAcc, CdnCame, Close, LineDrop}
use Rattle.call_fsm.specs.declared.table.CallAction.{CallAction}
use Rattle.call_fsm.specs.declared.table.CallAction.TheVariants.{Nothing, SendIcrq, SendIcrp, SendIccn, SendCdn, CleanUp, DropSession}

-- from one of these states, on one of these events
pub record Row : Type 0 where
  pub from : List CallState
  pub on : List CallEvent
  pub action : CallAction
  pub next : CallState

abbrev pub row : List CallState → List CallEvent → CallAction → CallState → Row
row f o a n = record { from = f; on = o; action = a; next = n }

abbrev pub lac_rows : List Row
lac_rows =
    row (Idle ∷ []) (Ring ∷ []) Nothing WaitTunnel
    ∷ row (Idle ∷ []) (IcrpAcc ∷ IcrpNotAcc ∷ IccnAcc ∷ IccnNotAcc ∷ CdnCame ∷ []) DropSession Idle
    ∷ row (WaitTunnel ∷ []) (TunnelOpen ∷ []) SendIcrq WaitReply
    ∷ row (WaitTunnel ∷ []) (Close ∷ LineDrop ∷ []) CleanUp Idle
    ∷ row (WaitReply ∷ []) (IcrpAcc ∷ []) SendIccn Established
    ∷ row (WaitReply ∷ []) (IcrpNotAcc ∷ IcrqAcc ∷ IcrqNotAcc ∷ Close ∷ LineDrop ∷ []) SendCdn Idle
    ∷ row (WaitReply ∷ []) (CdnCame ∷ IccnAcc ∷ IccnNotAcc ∷ []) CleanUp Idle
    ∷ row (Established ∷ []) (IcrqAcc ∷ IcrqNotAcc ∷ IcrpAcc ∷ IcrpNotAcc ∷ IccnAcc ∷ IccnNotAcc ∷ Close ∷ LineDrop ∷ []) SendCdn Idle
    ∷ row (Established ∷ []) (CdnCame ∷ []) CleanUp Idle
    ∷ []

abbrev pub lns_rows : List Row
lns_rows =
    row (Idle ∷ []) (IcrqAcc ∷ []) SendIcrp WaitConnect
    ∷ row (Idle ∷ []) (IcrqNotAcc ∷ IcrpAcc ∷ IcrpNotAcc ∷ []) SendCdn Idle
    ∷ row (Idle ∷ []) (IccnAcc ∷ IccnNotAcc ∷ CdnCame ∷ []) DropSession Idle
    ∷ row (WaitConnect ∷ []) (IccnAcc ∷ []) Nothing Established
    ∷ row (WaitConnect ∷ []) (IccnNotAcc ∷ IcrqAcc ∷ IcrqNotAcc ∷ IcrpAcc ∷ IcrpNotAcc ∷ Close ∷ []) SendCdn Idle
    ∷ row (Established ∷ []) (IcrqAcc ∷ IcrqNotAcc ∷ IcrpAcc ∷ IcrpNotAcc ∷ IccnAcc ∷ IccnNotAcc ∷ Close ∷ []) SendCdn Idle
    ∷ row (WaitTunnel ∷ WaitReply ∷ WaitConnect ∷ Established ∷ []) (CdnCame ∷ []) CleanUp Idle
    ∷ []

-- to tell states and events apart
abbrev pub state_number : CallState → ℕ
state_number Idle = 0
state_number WaitTunnel = 1
state_number WaitReply = 2
state_number WaitConnect = 3
state_number Established = 4

abbrev pub event_number : CallEvent → ℕ
event_number Ring = 0
event_number TunnelOpen = 1
event_number IcrqAcc = 2
event_number IcrqNotAcc = 3
event_number IcrpAcc = 4
event_number IcrpNotAcc = 5
event_number IccnAcc = 6
event_number IccnNotAcc = 7
event_number CdnCame = 8
event_number Close = 9
event_number LineDrop = 10

abbrev pub is_for : Row → CallState → CallEvent → Bool
is_for r s e = list_any (λ x. state_number x == state_number s) r.from && list_any (λ x. event_number x == event_number e) r.on

-- the next state and the action by the first row that fits; a pair without a row changes nothing
abbrev pub row_of : List Row → CallState → CallEvent → CallState × CallAction
row_of [] s e = (s, Nothing)
row_of (r ∷ rs) s e = if is_for r s e then (r.next, r.action) else row_of rs s e

-- the first row that fits is the last
abbrev pub none_for : CallState → CallEvent → List Row → Bool
none_for s e rs = not (list_any (λ r. is_for r s e) rs)

abbrev pub one_row_at_most : CallState → CallEvent → List Row → Bool
one_row_at_most s e [] = true
one_row_at_most s e (r ∷ rs) = if is_for r s e then none_for s e rs else one_row_at_most s e rs
