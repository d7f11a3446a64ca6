-- The states that the rows of calls lead from and to.
use Rattle.std.proofs.Common.{◌≡◌, ℕ, ◌∙◌, Bool, true, false, refl, sym, List, Option, Some, None, is_some}
use Rattle.std.proofs.lemmas.Bool.{true≢false}
use Rattle.std.specs.Prelude.{replicate}
use Rattle.call_fsm.specs.declared.table.CallState.{CallState}
use Rattle.call_fsm.specs.declared.table.CallState.TheVariants.{Idle, WaitTunnel, WaitReply, WaitConnect, Established}
use Rattle.call_fsm.specs.declared.table.CallEvent.TheVariants as call_event
use Rattle.end_names.specs.declared.role.Role.{Role}
use Rattle.end_names.specs.declared.role.Role.TheVariants.{Lac, Lns}
use Rattle.end_model.specs.declared.tunnel.Call.{Call}
use Rattle.book_laws.specs.Books.{HasNone}
use Rattle.end_model.specs.Calls.{call_row, row_of_none, advanced, rung, asked_for, is_request, is_reply, is_connection, is_up, number_after, first_number}

pub never : {X : Type 0} → false ≡ true → X
never h = absurd (true≢false (sym h))

pub requested_state : (r : Role) (s : CallState) → is_request (call_row r s call_event.TunnelOpen).1 ≡ true
    → (s ≡ WaitTunnel) × ((call_row r s call_event.TunnelOpen).0 ≡ WaitReply)
unfolding call_row
requested_state Lac Idle h = never h
requested_state Lac WaitTunnel h = (refl, refl)
requested_state Lac WaitReply h = never h
requested_state Lac WaitConnect h = never h
requested_state Lac Established h = never h
requested_state Lns Idle h = never h
requested_state Lns WaitTunnel h = never h
requested_state Lns WaitReply h = never h
requested_state Lns WaitConnect h = never h
requested_state Lns Established h = never h

pub replied_state : (r : Role) (remote moment : ℕ) → is_reply (row_of_none r call_event.IcrqAcc).1 ≡ true → (asked_for r remote moment).state ≡ WaitConnect
unfolding call_row asked_for advanced
replied_state Lac remote moment h = never h
replied_state Lns remote moment h = refl

pub rung_state : (r : Role) (who : List ℕ) (moment : ℕ) → r ≡ Lac → (rung r who moment).state ≡ WaitTunnel
unfolding call_row rung advanced
rung_state Lac who moment h = refl
rung_state Lns who moment h = absurd cc

pub connected_state : (r : Role) (s : CallState) → is_connection (call_row r s call_event.IcrpAcc).1 ≡ true
    → (s ≡ WaitReply) × ((call_row r s call_event.IcrpAcc).0 ≡ Established)
unfolding call_row
connected_state Lac Idle h = never h
connected_state Lac WaitTunnel h = never h
connected_state Lac WaitReply h = (refl, refl)
connected_state Lac WaitConnect h = never h
connected_state Lac Established h = never h
connected_state Lns Idle h = never h
connected_state Lns WaitTunnel h = never h
connected_state Lns WaitReply h = never h
connected_state Lns WaitConnect h = never h
connected_state Lns Established h = never h

pub up_state : (s : CallState) → is_up s ≡ true → s ≡ Established
up_state Idle h = never h
up_state WaitTunnel h = never h
up_state WaitReply h = never h
up_state WaitConnect h = never h
up_state Established h = refl

pub connection_is_lac : (r : Role) (s : CallState) → is_connection (call_row r s call_event.IcrpAcc).1 ≡ true → r ≡ Lac
unfolding call_row
connection_is_lac Lac s h = refl
connection_is_lac Lns Idle h = never h
connection_is_lac Lns WaitTunnel h = never h
connection_is_lac Lns WaitReply h = never h
connection_is_lac Lns WaitConnect h = never h
connection_is_lac Lns Established h = never h

pub reply_is_lns : (r : Role) → is_reply (row_of_none r call_event.IcrqAcc).1 ≡ true → r ≡ Lns
unfolding call_row
reply_is_lns Lac h = never h
reply_is_lns Lns h = refl

pub connected_is_lns : (r : Role) (s : CallState) → is_up (call_row r s call_event.IccnAcc).0 ≡ true → r ≡ Lns
unfolding call_row
connected_is_lns Lns s h = refl
connected_is_lns Lac Idle h = never h
connected_is_lns Lac WaitTunnel h = never h
connected_is_lns Lac WaitReply h = never h
connected_is_lns Lac WaitConnect h = never h
connected_is_lns Lac Established h = never h

-- a call that an ICCN connects wasn't established
pub not_up_before : (r : Role) (s : CallState) → is_up (call_row r s call_event.IccnAcc).0 ≡ true → is_up s ≡ false
unfolding call_row
not_up_before Lns Idle h = refl
not_up_before Lns WaitTunnel h = refl
not_up_before Lns WaitReply h = refl
not_up_before Lns WaitConnect h = refl
not_up_before Lns Established h = never h
not_up_before Lac Idle h = refl
not_up_before Lac WaitTunnel h = refl
not_up_before Lac WaitReply h = refl
not_up_before Lac WaitConnect h = refl
not_up_before Lac Established h = never h

-- ---- what a call has none of

pub rung_none : (r : Role) (who : List ℕ) (moment : ℕ) → r ≡ Lac → HasNone r (rung r who moment)
unfolding rung advanced
rung_none Lac who moment h = refl
rung_none Lns who moment h = absurd cc

pub asked_none : (r : Role) (remote moment : ℕ) → r ≡ Lns → HasNone r (asked_for r remote moment)
unfolding asked_for advanced
asked_none Lns remote moment h = refl
asked_none Lac remote moment h = absurd cc

pub lac_none : (r : Role) (c : Call) → r ≡ Lac → HasNone r c → c.sequence ≡ None
lac_none Lac c h n = n
lac_none Lns c h n = absurd cc

pub lns_none : (r : Role) (c : Call) → r ≡ Lns → HasNone r c → c.subscriber ≡ replicate 6 0
lns_none Lns c h n = n
lns_none Lac c h n = absurd cc

-- one with the same subscriber, and with numbers where the other has them
pub alike_none : (r : Role) (c d : Call) → d.subscriber ≡ c.subscriber → (c.sequence ≡ None → d.sequence ≡ None) → HasNone r c → HasNone r d
alike_none Lac c d subscriber sequence n = sequence n
alike_none Lns c d subscriber sequence n = subscriber ∙ n

pub lns_subscriber : (r : Role) (c d : Call) → r ≡ Lns → d.subscriber ≡ c.subscriber → HasNone r c → HasNone r d
lns_subscriber Lns c d h subscriber n = subscriber ∙ n
lns_subscriber Lac c d h subscriber n = absurd cc

pub numbers_first : (b : Bool) → is_some (first_number b) ≡ b
numbers_first true = refl
numbers_first false = refl

pub numbers_after : (o : Option ℕ) → is_some (number_after o) ≡ is_some o
numbers_after None = refl
numbers_after (Some n) = refl

pub no_number_after : (o : Option ℕ) → o ≡ None → number_after o ≡ None
no_number_after None h = refl
no_number_after (Some n) h = absurd cc
