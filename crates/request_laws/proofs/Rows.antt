-- What the rows of calls' tables tell of the end that they are for, and of the calls that go by them.
use Rattle.std.proofs.Common.{◌≡◌, ℕ, true, false, refl, sym}
use Rattle.std.proofs.lemmas.Bool.{true≢false}
use Rattle.call_fsm.specs.declared.table.CallState.{CallState}
use Rattle.call_fsm.specs.declared.table.CallState.TheVariants.{Idle, WaitTunnel, WaitReply, WaitConnect, Established}
use Rattle.call_fsm.specs.declared.table.CallEvent.TheVariants.{TunnelOpen, IcrqAcc, IcrpAcc, IccnAcc}
use Rattle.end_model.specs.declared.tunnel.Call.{Call}
use Rattle.end_names.specs.declared.role.Role.{Role}
use Rattle.end_names.specs.declared.role.Role.TheVariants.{Lac, Lns}
use Rattle.end_model.specs.Calls.{call_row, row_for, row_of_none, advanced, is_request, is_reply, is_connection, is_up}

never : {X : Type 0} → false ≡ true → X
never h = absurd (true≢false (sym h))

-- a call in this state is asked for once its tunnel is open
abbrev pub StateAsks : Role → CallState → Type 0
StateAsks r s = is_request (call_row r s TunnelOpen).1 ≡ true

abbrev pub Asks : Role → Call → Type 0
Asks r c = StateAsks r c.state

pub not_both : (r : Role) → r ≡ Lac → r ≡ Lns → ⊥
not_both Lac a b = absurd (cc)
not_both Lns a b = absurd (cc)

-- only a LAC asks for a call
pub request_row : (r : Role) (s : CallState) → StateAsks r s → r ≡ Lac
unfolding call_row
request_row Lac s h = refl
request_row Lns Idle h = never h
request_row Lns WaitTunnel h = never h
request_row Lns WaitReply h = never h
request_row Lns WaitConnect h = never h
request_row Lns Established h = never h

-- only an LNS replies
pub reply_row : (r : Role) → is_reply (row_of_none r IcrqAcc).1 ≡ true → r ≡ Lns
unfolding call_row
reply_row Lac h = never h
reply_row Lns h = refl

-- a call that was asked for isn't asked for again
asked_row : (r : Role) (s : CallState) → StateAsks r s → StateAsks r (call_row r s TunnelOpen).0 → ⊥
unfolding call_row
asked_row Lac Idle h k = never h
asked_row Lac WaitTunnel h k = never k
asked_row Lac WaitReply h k = never h
asked_row Lac WaitConnect h k = never h
asked_row Lac Established h k = never h
asked_row Lns s h k = not_both Lns (request_row Lns s h) refl

-- nor is one that comes up
first_row : (r : Role) (s : CallState) → is_connection (call_row r s IcrpAcc).1 ≡ true → StateAsks r (call_row r s IcrpAcc).0 → ⊥
unfolding call_row
first_row Lac Idle h k = never h
first_row Lac WaitTunnel h k = never h
first_row Lac WaitReply h k = never k
first_row Lac WaitConnect h k = never h
first_row Lac Established h k = never h
first_row Lns s h k = not_both Lns (request_row Lns (call_row Lns s IcrpAcc).0 k) refl

pub up_row : (r : Role) (s : CallState) → is_up s ≡ true → StateAsks r s → ⊥
unfolding call_row
up_row r Idle h k = never h
up_row r WaitTunnel h k = never h
up_row r WaitReply h k = never h
up_row r WaitConnect h k = never h
up_row Lac Established h k = never k
up_row Lns Established h k = never k

-- the calls that go by them
pub asked_over : (r : Role) (moment : ℕ) (c : Call) → Asks r c → Asks r (advanced r TunnelOpen moment c) → ⊥
unfolding advanced
asked_over r moment c h k = asked_row r c.state h k

pub first_over : (r : Role) (moment : ℕ) (c : Call) → is_connection (row_for r c IcrpAcc).1 ≡ true → Asks r (advanced r IcrpAcc moment c) → ⊥
unfolding advanced
first_over r moment c h k = first_row r c.state h k

pub second_over : (r : Role) (moment : ℕ) (c : Call) → is_up (row_for r c IccnAcc).0 ≡ true → Asks r (advanced r IccnAcc moment c) → ⊥
unfolding advanced
second_over r moment c h k = up_row r (row_for r c IccnAcc).0 h k
