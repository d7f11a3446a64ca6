-- When a tunnel has failed, in milliseconds: what tells it, and what it tells.
use Rattle.std.proofs.Common.{◌≡◌, ◌⊎◌, inl, inr, ℕ, ◌+◌, ◌-◌, ◌<◌, ◌≤◌, Bool, true, false, cond, refl, ap, ◌∙◌, sym, subst, arith, ne_eqb}
use Rattle.std.proofs.lemmas.Bool.{ltb-true, lt-ltb, ltb-false, le-ltb, true≢false}
use Rattle.std.proofs.lemmas.Bool.Decides.{nat_tests}
use Rattle.std.specs.Prelude.{◌&&◌, ◌||◌, nat_le, nat_lt}
use Rattle.send_window.specs.declared.window.Tick.TheVariants.{Quiet, Again, Failed}
use Rattle.send_window.specs.Window.{wait_after, is_due, due_at}
use Rattle.control_channel.specs.Numbers.{Numbers, answer_to_tick}
use Rattle.tunnel_fsm.specs.declared.table.TunnelState.{TunnelState}
use Rattle.tunnel_fsm.specs.declared.table.TunnelState.TheVariants as state
use Rattle.call_fsm.specs.declared.table.CallState.{CallState}
use Rattle.call_fsm.specs.declared.table.CallState.TheVariants as call
use Rattle.end_model.specs.declared.tunnel.Control.{Control}
use Rattle.end_names.specs.declared.role.Role.{Role}
use Rattle.end_names.specs.declared.role.Role.TheVariants.{Lac, Lns}
use Rattle.end_model.specs.Calls.{is_set_up}
use Rattle.end_model.specs.Moments.{is_over, patience, is_closed, kept_closed, is_being_set_up, is_at_its_end}
use Rattle.step_laws.specs.Left.{CanBe}
use Rattle.step_laws.specs.Failing.{IsGivenUp, HasFailed, IsNotSetUp, WasClosed, IsUnanswered}
use Rattle.step_laws.proofs.Lists.{and_left, and_right}
use Rattle.step_laws.proofs.States.{never}

-- ---- moments that have passed

pub passed : (moment since : ℕ) → is_over patience moment since ≡ true → since + 60000 ≤ moment
passed moment since h = grind (arith, nat_tests)

pub is_past : (moment since : ℕ) → since + 60000 ≤ moment → is_over patience moment since ≡ true
is_past moment since h = grind (arith, nat_tests)

closed_passed : (moment since : ℕ) → is_over kept_closed moment since ≡ true → since + 31000 ≤ moment
closed_passed moment since h = grind (arith, nat_tests)

closed_past : (moment since : ℕ) → since + 31000 ≤ moment → is_over kept_closed moment since ≡ true
closed_past moment since h = grind (arith, nat_tests)

waited : (moment since : ℕ) → nat_le 8000 (moment - since) ≡ true → since + 8000 ≤ moment
waited moment since h = grind (arith, nat_tests)

wait_past : (moment since : ℕ) → since + 8000 ≤ moment → nat_le 8000 (moment - since) ≡ true
wait_past moment since h = grind (arith, nat_tests)

-- after the fifth repetition
wait_is : (repetitions : ℕ) → 5 ≤ repetitions → wait_after repetitions ≡ 8000
wait_is repetitions many =
    let a = ne_eqb repetitions 0 (λ z. omega (arith, z, many)) in
    let b = ne_eqb repetitions 1 (λ z. omega (arith, z, many)) in
    let c = ne_eqb repetitions 2 (λ z. omega (arith, z, many)) in
    rw (a, b, c) refl

-- ---- states

closed_is : (s : TunnelState) → is_closed s ≡ true → s ≡ state.Closed
closed_is state.Idle h = never h
closed_is state.WaitCtlReply h = never h
closed_is state.WaitCtlConn h = never h
closed_is state.Established h = never h
closed_is state.Closed h = refl

waits_is : (s : TunnelState) → is_being_set_up s ≡ true → (s ≡ state.WaitCtlReply) ⊎ (s ≡ state.WaitCtlConn)
waits_is state.Idle h = never h
waits_is state.WaitCtlReply h = inl refl
waits_is state.WaitCtlConn h = inr refl
waits_is state.Established h = never h
waits_is state.Closed h = never h

-- a call that is being set up isn't established, and one that isn't, and can be, is
pub not_up : (s : CallState) → is_set_up s ≡ true → s ≡ call.Established → ⊥
not_up s set_up up = true≢false (sym set_up ∙ ap is_set_up up)

pub set_up : (r : Role) (s : CallState) → CanBe r s → (s ≡ call.Established → ⊥) → is_set_up s ≡ true
set_up Lac call.Idle can other = absurd can
set_up Lns call.Idle can other = absurd can
set_up r call.WaitTunnel can other = refl
set_up r call.WaitReply can other = refl
set_up r call.WaitConnect can other = refl
set_up r call.Established can other = absurd (other refl)

-- ---- what tells that a tunnel has failed

pub ended_failed : (moment : ℕ) (c : Control) → is_at_its_end moment c ≡ true → HasFailed moment c
ended_failed moment c h = by (is_closed c.state && is_over kept_closed moment c.closed) refl h
  where
    by : (b : Bool) → (is_closed c.state && is_over kept_closed moment c.closed) ≡ b
        → (b || (is_being_set_up c.state && is_over patience moment c.made)) ≡ true → HasFailed moment c
    by true closed h =
        WasClosed (closed_is c.state (and_left (is_closed c.state) (is_over kept_closed moment c.closed) closed))
        (closed_passed moment c.closed (and_right (is_closed c.state) (is_over kept_closed moment c.closed) closed))
    by false other h =
        IsNotSetUp (waits_is c.state (and_left (is_being_set_up c.state) (is_over patience moment c.made) h))
        (passed moment c.made (and_right (is_being_set_up c.state) (is_over patience moment c.made) h))

pub given_up : (moment : ℕ) (n : Numbers) (first : ℕ) → answer_to_tick n moment ≡ Failed first → IsGivenUp moment n
given_up moment n first h = by n.frozen (due_at n.window moment) (nat_lt n.window.repetitions 5) refl refl refl h
  where
    by : (a b c : Bool) → n.frozen ≡ a → due_at n.window moment ≡ b → nat_lt n.window.repetitions 5 ≡ c
        → cond a Quiet (cond b (cond c (Again n.window.acked) (Failed n.window.acked)) Quiet) ≡ Failed first → IsGivenUp moment n
    by true b c frozen due few h = absurd cc
    by false false c free due few h = absurd cc
    by false true true free due few h = absurd cc
    by false true false free due few h =
        let some = nat_lt 0 n.window.outstanding in
        let many : 5 ≤ n.window.repetitions = ltb-false n.window.repetitions 5 few in
        let over = and_right some (nat_le (wait_after n.window.repetitions) (moment - n.window.since)) due in
        record {
          going = free;
          some = ltb-true 0 n.window.outstanding (and_left some (nat_le (wait_after n.window.repetitions) (moment - n.window.since)) due);
          repeated = many;
          over = waited moment n.window.since (subst (λ (k : ℕ). nat_le k (moment - n.window.since) ≡ true) (wait_is n.window.repetitions many) over);
        }

-- ---- and what it tells

or_true : (a : Bool) → (a || true) ≡ true
or_true true = refl
or_true false = refl

due_of : (outstanding repetitions since moment : ℕ) → 0 < outstanding → 5 ≤ repetitions → since + 8000 ≤ moment
    → is_due outstanding repetitions since moment ≡ true
due_of outstanding repetitions since moment some many over =
    let a = lt-ltb 0 outstanding some in
    let w = wait_is repetitions many in
    let b = wait_past moment since over in
    rw (a, w, b) refl

pub failed_ends : (moment : ℕ) (c : Control) → HasFailed moment c
    → (is_at_its_end moment c ≡ true) ⊎ ((first : ℕ) × (answer_to_tick c.channel moment ≡ Failed first))
failed_ends moment c (IsNotSetUp waits over) = inl (late waits)
  where
    past : is_over patience moment c.made ≡ true
    past = is_past moment c.made over

    by : (s : TunnelState) → c.state ≡ s → is_being_set_up s ≡ true → is_at_its_end moment c ≡ true
    by s is set_up =
        let waits = ap is_being_set_up is ∙ set_up in
        rw (waits, past) (or_true (is_closed c.state && is_over kept_closed moment c.closed))

    late : (c.state ≡ state.WaitCtlReply) ⊎ (c.state ≡ state.WaitCtlConn) → is_at_its_end moment c ≡ true
    late (inl is) = by state.WaitCtlReply is refl
    late (inr is) = by state.WaitCtlConn is refl
failed_ends moment c (WasClosed closed over) =
    let is : is_closed c.state ≡ true = ap is_closed closed in
    let past = closed_past moment c.closed over in
    inl (rw (is, past) refl)
failed_ends moment c (IsUnanswered g) =
    let w = c.channel.window in
    let due : due_at w moment ≡ true = due_of w.outstanding w.repetitions w.since moment g.some g.repeated g.over in
    let few : nat_lt w.repetitions 5 ≡ false = le-ltb w.repetitions 5 g.repeated in
    let free = g.going in
    inr (w.acked, rw (free, due, few) refl)
