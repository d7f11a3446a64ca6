-- The states that the rows of calls lead from and to.
use Rattle.std.proofs.Common.{◌≡◌, ℕ, true, false, refl, sym, List}
use Rattle.std.proofs.lemmas.Bool.{true≢false}
use Rattle.call_fsm.specs.declared.table.CallState.{CallState}
use Rattle.call_fsm.specs.declared.table.CallState.TheVariants.{Idle, WaitTunnel, WaitReply, WaitConnect, Established}
use Rattle.call_fsm.specs.declared.table.CallEvent.TheVariants as call_event
use Rattle.end_names.specs.declared.role.Role.{Role}
use Rattle.end_names.specs.declared.role.Role.TheVariants.{Lac, Lns}
use Rattle.end_model.specs.Calls.{call_row, row_of_none, advanced, rung, asked_for, is_request, is_reply, is_connection, is_up}

pub never : {X : Type 0} → false ≡ true → X
never h = absurd (true≢false (sym h))

-- a LAC replies to no request, and an LNS does
pub takes_none : (r : Role) → is_reply (row_of_none r call_event.IcrqAcc).1 ≡ false → r ≡ Lac
unfolding call_row
takes_none Lac h = refl
takes_none Lns h = absurd (true≢false h)

pub none_taken : (r : Role) → r ≡ Lac → is_reply (row_of_none r call_event.IcrqAcc).1 ≡ false
unfolding call_row
none_taken Lac h = refl
none_taken Lns h = absurd cc

-- a call that is asked for waited for its tunnel, and waits for a reply
pub requested_state : (r : Role) (s : CallState) → is_request (call_row r s call_event.TunnelOpen).1 ≡ true
    → (s ≡ WaitTunnel) × ((call_row r s call_event.TunnelOpen).0 ≡ WaitReply)
unfolding call_row
requested_state Lac Idle h = never h
requested_state Lac WaitTunnel h = (refl, refl)
requested_state Lac WaitReply h = never h
requested_state Lac WaitConnect h = never h
requested_state Lac Established h = never h
requested_state Lns Idle h = never h
requested_state Lns WaitTunnel h = never h
requested_state Lns WaitReply h = never h
requested_state Lns WaitConnect h = never h
requested_state Lns Established h = never h

pub replied_state : (r : Role) (remote moment : ℕ) → is_reply (row_of_none r call_event.IcrqAcc).1 ≡ true → (asked_for r remote moment).state ≡ WaitConnect
unfolding call_row asked_for advanced
replied_state Lac remote moment h = never h
replied_state Lns remote moment h = refl

pub rung_state : (r : Role) (who : List ℕ) (moment : ℕ) → r ≡ Lac → (rung r who moment).state ≡ WaitTunnel
unfolding call_row rung advanced
rung_state Lac who moment h = refl
rung_state Lns who moment h = absurd cc

pub connected_state : (r : Role) (s : CallState) → is_connection (call_row r s call_event.IcrpAcc).1 ≡ true
    → (s ≡ WaitReply) × ((call_row r s call_event.IcrpAcc).0 ≡ Established)
unfolding call_row
connected_state Lac Idle h = never h
connected_state Lac WaitTunnel h = never h
connected_state Lac WaitReply h = (refl, refl)
connected_state Lac WaitConnect h = never h
connected_state Lac Established h = never h
connected_state Lns Idle h = never h
connected_state Lns WaitTunnel h = never h
connected_state Lns WaitReply h = never h
connected_state Lns WaitConnect h = never h
connected_state Lns Established h = never h

pub up_state : (s : CallState) → is_up s ≡ true → s ≡ Established
up_state Idle h = never h
up_state WaitTunnel h = never h
up_state WaitReply h = never h
up_state WaitConnect h = never h
up_state Established h = refl

-- one that rings is asked for where its tunnel is open
pub rung_asks : (r : Role) (who : List ℕ) (moment : ℕ) → r ≡ Lac → is_request (call_row r (rung r who moment).state call_event.TunnelOpen).1 ≡ true
unfolding call_row rung advanced
rung_asks Lac who moment h = refl
rung_asks Lns who moment h = absurd cc

-- an end that asks for a call is a LAC
pub request_is_lac : (r : Role) (s : CallState) → is_request (call_row r s call_event.TunnelOpen).1 ≡ true → r ≡ Lac
unfolding call_row
request_is_lac Lac s h = refl
request_is_lac Lns Idle h = never h
request_is_lac Lns WaitTunnel h = never h
request_is_lac Lns WaitReply h = never h
request_is_lac Lns WaitConnect h = never h
request_is_lac Lns Established h = never h

-- so is one that connects it
pub connection_is_lac : (r : Role) (s : CallState) → is_connection (call_row r s call_event.IcrpAcc).1 ≡ true → r ≡ Lac
unfolding call_row
connection_is_lac Lac s h = refl
connection_is_lac Lns Idle h = never h
connection_is_lac Lns WaitTunnel h = never h
connection_is_lac Lns WaitReply h = never h
connection_is_lac Lns WaitConnect h = never h
connection_is_lac Lns Established h = never h

-- one that is asked, or connected, is an LNS
pub reply_is_lns : (r : Role) → is_reply (row_of_none r call_event.IcrqAcc).1 ≡ true → r ≡ Lns
unfolding call_row
reply_is_lns Lac h = never h
reply_is_lns Lns h = refl

pub connected_is_lns : (r : Role) (s : CallState) → is_up (call_row r s call_event.IccnAcc).0 ≡ true → r ≡ Lns
unfolding call_row
connected_is_lns Lns s h = refl
connected_is_lns Lac Idle h = never h
connected_is_lns Lac WaitTunnel h = never h
connected_is_lns Lac WaitReply h = never h
connected_is_lns Lac WaitConnect h = never h
connected_is_lns Lac Established h = never h
