-- What the rows of calls' tables tell of the end that they are for.
use Rattle.std.proofs.Common.{◌≡◌, inl, inr, ℕ, true, false, refl, sym, List}
use Rattle.std.proofs.lemmas.Bool.{true≢false}
use Rattle.call_fsm.specs.declared.table.CallState.{CallState}
use Rattle.call_fsm.specs.declared.table.CallState.TheVariants.{Idle, WaitTunnel, WaitReply, WaitConnect, Established}
use Rattle.call_fsm.specs.declared.table.CallEvent.TheVariants.{TunnelOpen, IcrqAcc, IccnAcc}
use Rattle.end_names.specs.declared.role.Role.{Role}
use Rattle.end_names.specs.declared.role.Role.TheVariants.{Lac, Lns}
use Rattle.end_model.specs.Calls.{call_row, row_of_none, advanced, rung, is_request, is_reply, is_up}
use Rattle.frame_laws.specs.Facts.{KnowsItsMate}

never : {X : Type 0} → false ≡ true → X
never h = absurd (true≢false (sym h))

-- only a LAC asks for a call, and it isn't up then
pub request_row : (r : Role) (s : CallState) → is_request (call_row r s TunnelOpen).1 ≡ true → (r ≡ Lac) × (is_up (call_row r s TunnelOpen).0 ≡ false)
unfolding call_row
request_row Lac Idle h = never h
request_row Lac WaitTunnel h = (refl, refl)
request_row Lac WaitReply h = never h
request_row Lac WaitConnect h = never h
request_row Lac Established h = never h
request_row Lns Idle h = never h
request_row Lns WaitTunnel h = never h
request_row Lns WaitReply h = never h
request_row Lns WaitConnect h = never h
request_row Lns Established h = never h

-- only an LNS replies
pub reply_row : (r : Role) → is_reply (row_of_none r IcrqAcc).1 ≡ true → r ≡ Lns
unfolding call_row
reply_row Lac h = never h
reply_row Lns h = refl

-- only an LNS comes up by a connection
pub second_row : (r : Role) (s : CallState) → is_up (call_row r s IccnAcc).0 ≡ true → r ≡ Lns
unfolding call_row
second_row Lac Idle h = never h
second_row Lac WaitTunnel h = never h
second_row Lac WaitReply h = never h
second_row Lac WaitConnect h = never h
second_row Lac Established h = never h
second_row Lns s h = refl

-- of a call that rings a LAC doesn't know the mate
pub rung_row : (r : Role) (who : List ℕ) (moment : ℕ) → r ≡ Lac → KnowsItsMate r (rung r who moment) → ⊥
unfolding rung advanced call_row
rung_row Lac who moment lac (inl lns) = absurd cc
rung_row Lac who moment lac (inr up) = absurd (true≢false (sym up))
rung_row Lns who moment lac known = absurd cc
