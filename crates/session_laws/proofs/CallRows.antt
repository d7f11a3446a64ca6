-- What the rows of calls' tables say of the machine's calls.
use Rattle.std.proofs.Common.{◌≡◌, ℕ, Bool, true, false, refl, sym, ap, ◌∙◌, List}
use Rattle.std.proofs.lemmas.Bool.{true≢false}
use Rattle.call_fsm.specs.declared.table.CallState.{CallState}
use Rattle.call_fsm.specs.declared.table.CallState.TheVariants.{Idle, WaitTunnel, WaitReply, WaitConnect, Established}
use Rattle.call_fsm.specs.declared.table.CallEvent.{CallEvent}
use Rattle.call_fsm.specs.declared.table.CallEvent.TheVariants.{Ring, TunnelOpen, IcrqAcc, IcrqNotAcc, IcrpAcc, IcrpNotAcc, IccnAcc, IccnNotAcc, CdnCame, Close, LineDrop}
use Rattle.end_model.specs.declared.tunnel.Call.{Call}
use Rattle.end_names.specs.declared.role.Role.{Role}
use Rattle.end_names.specs.declared.role.Role.TheVariants.{Lac, Lns}
use Rattle.end_model.specs.Calls.{call_row, row_for, row_of_none, advanced, rung, asked_for, is_request, is_reply, is_connection, is_told, is_up, is_clean_up}
use Rattle.epoch_machine.specs.Calls as machine
use Rattle.session_laws.specs.Names.{state_of}
use Rattle.session_laws.specs.Joined.{FitsRole}

never : {X : Type 0} → false ≡ true → X
never h = absurd (true≢false (sym h))

-- ---- letters on which nothing is done

-- a call that an ICRP doesn't connect waits for none
pub no_first : (r : Role) (s : CallState) → FitsRole r s → is_connection (call_row r s IcrpAcc).1 ≡ false → machine.waits_reply (state_of s) ≡ false
unfolding call_row
no_first Lac Idle fits h = absurd fits
no_first Lac WaitTunnel fits h = refl
no_first Lac WaitReply fits h = never (sym h)
no_first Lac WaitConnect fits h = absurd fits
no_first Lac Established fits h = refl
no_first Lns Idle fits h = absurd fits
no_first Lns WaitTunnel fits h = absurd fits
no_first Lns WaitReply fits h = absurd fits
no_first Lns WaitConnect fits h = refl
no_first Lns Established fits h = refl

-- one that an ICCN doesn't bring up waits for none
pub no_second : (r : Role) (s : CallState) → FitsRole r s → is_up (call_row r s IccnAcc).0 ≡ false → machine.waits_connect (state_of s) ≡ false
unfolding call_row
no_second Lac Idle fits h = absurd fits
no_second Lac WaitTunnel fits h = refl
no_second Lac WaitReply fits h = refl
no_second Lac WaitConnect fits h = absurd fits
no_second Lac Established fits h = refl
no_second Lns Idle fits h = absurd fits
no_second Lns WaitTunnel fits h = absurd fits
no_second Lns WaitReply fits h = absurd fits
no_second Lns WaitConnect fits h = never (sym h)
no_second Lns Established fits h = refl

-- one that a CDN doesn't end waits for its tunnel
pub no_end : (r : Role) (s : CallState) → FitsRole r s → is_clean_up (call_row r s CdnCame).1 ≡ false → state_of s ≡ machine.Waits
unfolding call_row
no_end Lac Idle fits h = absurd fits
no_end Lac WaitTunnel fits h = refl
no_end Lac WaitReply fits h = never (sym h)
no_end Lac WaitConnect fits h = absurd fits
no_end Lac Established fits h = never (sym h)
no_end Lns Idle fits h = absurd fits
no_end Lns WaitTunnel fits h = absurd fits
no_end Lns WaitReply fits h = absurd fits
no_end Lns WaitConnect fits h = never (sym h)
no_end Lns Established fits h = never (sym h)

-- ---- moves of calls

-- how a call goes on: from a state of the machine's to another, which fits the end
pub record GoesOn (r : Role) (s next : CallState) (from to : machine.CallState) : Type 0 where
  pub was : state_of s ≡ from
  pub is : state_of next ≡ to
  pub fits : FitsRole r next

pub first_row : (r : Role) (s : CallState) → is_connection (call_row r s IcrpAcc).1 ≡ true
    → GoesOn r s (call_row r s IcrpAcc).0 machine.WaitsReply machine.Up
unfolding call_row
first_row Lac Idle h = never h
first_row Lac WaitTunnel h = never h
first_row Lac WaitReply h = record { was = refl; is = refl; fits = tt }
first_row Lac WaitConnect h = never h
first_row Lac Established h = never h
first_row Lns Idle h = never h
first_row Lns WaitTunnel h = never h
first_row Lns WaitReply h = never h
first_row Lns WaitConnect h = never h
first_row Lns Established h = never h

-- a LAC's call is established by a reply
pub first_role : (r : Role) (s : CallState) → is_connection (call_row r s IcrpAcc).1 ≡ true → r ≡ Lac
unfolding call_row
first_role Lac s h = refl
first_role Lns Idle h = never h
first_role Lns WaitTunnel h = never h
first_role Lns WaitReply h = never h
first_role Lns WaitConnect h = never h
first_role Lns Established h = never h

pub second_row : (r : Role) (s : CallState) → FitsRole r s → is_up (call_row r s IccnAcc).0 ≡ true
    → GoesOn r s (call_row r s IccnAcc).0 machine.WaitsConnect machine.Up
unfolding call_row
second_row Lac Idle fits h = never h
second_row Lac WaitTunnel fits h = never h
second_row Lac WaitReply fits h = never h
second_row Lac WaitConnect fits h = never h
second_row Lac Established fits h = never h
second_row Lns Idle fits h = never h
second_row Lns WaitTunnel fits h = never h
second_row Lns WaitReply fits h = never h
second_row Lns WaitConnect fits h = record { was = refl; is = refl; fits = tt }
second_row Lns Established fits h = never h

pub request_row : (r : Role) (s : CallState) → is_request (call_row r s TunnelOpen).1 ≡ true
    → GoesOn r s (call_row r s TunnelOpen).0 machine.Waits machine.WaitsReply
unfolding call_row
request_row Lac Idle h = never h
request_row Lac WaitTunnel h = record { was = refl; is = refl; fits = tt }
request_row Lac WaitReply h = never h
request_row Lac WaitConnect h = never h
request_row Lac Established h = never h
request_row Lns Idle h = never h
request_row Lns WaitTunnel h = never h
request_row Lns WaitReply h = never h
request_row Lns WaitConnect h = never h
request_row Lns Established h = never h

-- a LAC asks for calls
pub request_role : (r : Role) (s : CallState) → is_request (call_row r s TunnelOpen).1 ≡ true → r ≡ Lac
unfolding call_row
request_role Lac s h = refl
request_role Lns Idle h = never h
request_role Lns WaitTunnel h = never h
request_role Lns WaitReply h = never h
request_role Lns WaitConnect h = never h
request_role Lns Established h = never h

pub reply_row : (r : Role) → is_reply (row_of_none r IcrqAcc).1 ≡ true → GoesOn r Idle (row_of_none r IcrqAcc).0 machine.NoCall machine.WaitsConnect
unfolding call_row
reply_row Lac h = never h
reply_row Lns h = record { was = refl; is = refl; fits = tt }

-- and an LNS replies
pub reply_role : (r : Role) → is_reply (row_of_none r IcrqAcc).1 ≡ true → r ≡ Lns
unfolding call_row
reply_role Lac h = never h
reply_role Lns h = refl

-- a call that ends with a CDN lives, and doesn't wait for its tunnel
pub record IsTold (s : CallState) : Type 0 where
  pub lives : machine.lives (state_of s) ≡ true
  pub asked : machine.waits (state_of s) ≡ false
  pub other : s ≡ WaitTunnel → ⊥

is_told_one : (s : CallState) → machine.lives (state_of s) ≡ true → machine.waits (state_of s) ≡ false → IsTold s
is_told_one Idle l h = never l
is_told_one WaitTunnel l h = never (sym h)
is_told_one WaitReply l h = record { lives = refl; asked = refl; other = λ e. absurd (cc) }
is_told_one WaitConnect l h = record { lives = refl; asked = refl; other = λ e. absurd (cc) }
is_told_one Established l h = record { lives = refl; asked = refl; other = λ e. absurd (cc) }

-- whatever happens to it
pub told_row : (r : Role) (s : CallState) (on : CallEvent) → FitsRole r s → is_told (call_row r s on).1 ≡ true → IsTold s
unfolding call_row
told_row r WaitReply on fits h = is_told_one WaitReply refl refl
told_row r WaitConnect on fits h = is_told_one WaitConnect refl refl
told_row r Established on fits h = is_told_one Established refl refl
told_row Lac Idle on fits h = absurd fits
told_row Lns Idle on fits h = absurd fits
told_row Lns WaitTunnel on fits h = absurd fits
told_row Lac WaitTunnel on fits h = waits_on on h
  where
    waits_on : (on : CallEvent) → is_told (call_row Lac WaitTunnel on).1 ≡ true → IsTold WaitTunnel
    waits_on Ring h = never h
    waits_on TunnelOpen h = never h
    waits_on IcrqAcc h = never h
    waits_on IcrqNotAcc h = never h
    waits_on IcrpAcc h = never h
    waits_on IcrpNotAcc h = never h
    waits_on IccnAcc h = never h
    waits_on IccnNotAcc h = never h
    waits_on CdnCame h = never h
    waits_on Close h = never h
    waits_on LineDrop h = never h

-- one that ends silently waits for its tunnel; or a LAC's call heard of a connection, one with a fault, or a CDN
pub data IsSilent (r : Role) (s : CallState) (on : CallEvent) : Type 0 where
  AsWaiting : state_of s ≡ machine.Waits → IsSilent r s on
  OnConnection : r ≡ Lac → on ≡ IccnAcc → IsSilent r s on
  OnFaultyConnection : on ≡ IccnNotAcc → IsSilent r s on
  OnCdn : on ≡ CdnCame → IsSilent r s on

pub silent_row : (r : Role) (s : CallState) (on : CallEvent) → FitsRole r s → is_clean_up (call_row r s on).1 ≡ true → IsSilent r s on
unfolding call_row
silent_row Lac Idle on fits h = absurd fits
silent_row Lac WaitTunnel on fits h = AsWaiting refl
silent_row Lac WaitReply on fits h = asked_on on h
  where
    asked_on : (on : CallEvent) → is_clean_up (call_row Lac WaitReply on).1 ≡ true → IsSilent Lac WaitReply on
    asked_on Ring h = never h
    asked_on TunnelOpen h = never h
    asked_on IcrqAcc h = never h
    asked_on IcrqNotAcc h = never h
    asked_on IcrpAcc h = never h
    asked_on IcrpNotAcc h = never h
    asked_on IccnAcc h = OnConnection refl refl
    asked_on IccnNotAcc h = OnFaultyConnection refl
    asked_on CdnCame h = OnCdn refl
    asked_on Close h = never h
    asked_on LineDrop h = never h
silent_row Lac WaitConnect on fits h = absurd fits
silent_row Lac Established on fits h = up_on on h
  where
    up_on : (on : CallEvent) → is_clean_up (call_row Lac Established on).1 ≡ true → IsSilent Lac Established on
    up_on Ring h = never h
    up_on TunnelOpen h = never h
    up_on IcrqAcc h = never h
    up_on IcrqNotAcc h = never h
    up_on IcrpAcc h = never h
    up_on IcrpNotAcc h = never h
    up_on IccnAcc h = never h
    up_on IccnNotAcc h = never h
    up_on CdnCame h = OnCdn refl
    up_on Close h = never h
    up_on LineDrop h = never h
silent_row Lns Idle on fits h = absurd fits
silent_row Lns WaitTunnel on fits h = absurd fits
silent_row Lns WaitReply on fits h = absurd fits
silent_row Lns WaitConnect on fits h = made_on on h
  where
    made_on : (on : CallEvent) → is_clean_up (call_row Lns WaitConnect on).1 ≡ true → IsSilent Lns WaitConnect on
    made_on Ring h = never h
    made_on TunnelOpen h = never h
    made_on IcrqAcc h = never h
    made_on IcrqNotAcc h = never h
    made_on IcrpAcc h = never h
    made_on IcrpNotAcc h = never h
    made_on IccnAcc h = never h
    made_on IccnNotAcc h = never h
    made_on CdnCame h = OnCdn refl
    made_on Close h = never h
    made_on LineDrop h = never h
silent_row Lns Established on fits h = up_on on h
  where
    up_on : (on : CallEvent) → is_clean_up (call_row Lns Established on).1 ≡ true → IsSilent Lns Established on
    up_on Ring h = never h
    up_on TunnelOpen h = never h
    up_on IcrqAcc h = never h
    up_on IcrqNotAcc h = never h
    up_on IcrpAcc h = never h
    up_on IcrpNotAcc h = never h
    up_on IccnAcc h = never h
    up_on IccnNotAcc h = never h
    up_on CdnCame h = OnCdn refl
    up_on Close h = never h
    up_on LineDrop h = never h

abbrev pub is_else : CallEvent → Bool
is_else IccnAcc = false
is_else IccnNotAcc = false
is_else CdnCame = false
is_else on = true

-- on each other event it waits
pub else_waits : (r : Role) (s : CallState) (on is : CallEvent) → IsSilent r s on → on ≡ is → is_else is ≡ true → state_of s ≡ machine.Waits
else_waits r s on is (AsWaiting waits) same other = waits
else_waits r s on is (OnConnection lac it) same other = never (sym (ap is_else (sym same ∙ it)) ∙ other)
else_waits r s on is (OnFaultyConnection it) same other = never (sym (ap is_else (sym same ∙ it)) ∙ other)
else_waits r s on is (OnCdn it) same other = never (sym (ap is_else (sym same ∙ it)) ∙ other)

-- ---- calls that are made

pub rung_row : (who : List ℕ) (moment : ℕ) → (rung Lac who moment).state ≡ WaitTunnel
unfolding rung advanced call_row
rung_row who moment = refl

pub rung_remote : (r : Role) (who : List ℕ) (moment : ℕ) → (rung r who moment).remote ≡ 0
unfolding rung advanced
rung_remote r who moment = refl

pub asked_state : (r : Role) (remote moment : ℕ) → (asked_for r remote moment).state ≡ (row_of_none r IcrqAcc).0
unfolding asked_for advanced
asked_state r remote moment = refl

pub asked_remote : (r : Role) (remote moment : ℕ) → (asked_for r remote moment).remote ≡ remote
unfolding asked_for advanced
asked_remote r remote moment = refl

pub advanced_state : (r : Role) (ev : CallEvent) (moment : ℕ) (c : Call) → (advanced r ev moment c).state ≡ (row_for r c ev).0
unfolding advanced
advanced_state r ev moment c = refl

pub advanced_remote : (r : Role) (ev : CallEvent) (moment : ℕ) (c : Call) → (advanced r ev moment c).remote ≡ c.remote
unfolding advanced
advanced_remote r ev moment c = refl

-- a state that fits, written otherwise
pub fits_as : (q r : Role) (b a : CallState) → q ≡ r → b ≡ a → FitsRole r a → FitsRole q b
fits_as q r b a role state fits = rw (role, state) fits
