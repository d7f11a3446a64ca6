-- How the moment at which an end is due moves with its tunnels, and what stays a bound below it.
use Rattle.std.proofs.Common.{◌≡◌, ℕ, ◌<◌, Bool, true, false, List, [], ◌∷◌, Option, Some, None, refl, sym, ap, ◌∙◌, arith}
use Rattle.std.specs.Prelude.{if◌then◌else◌}
use Rattle.std.specs.declared.cmp.Ordering.{Ordering}
use Rattle.std.specs.declared.cmp.Ordering.TheVariants.{Less, Equal, Greater}
use Rattle.std.specs.Ordering.{nat_cmp}
use Rattle.std.specs.FinMap.{nat_cmp-IsAntisymmetric}
use Rattle.id_table.specs.Ids.{put, without}
use Rattle.id_table.specs.Order.{IsAbove, Ascends, lower, less_is}
use Rattle.wire_base.specs.declared.letter.Letter.{Letter}
use Rattle.end_model.specs.declared.tunnel.Call.{Call}
use Rattle.end_model.specs.declared.tunnel.Mode.{Mode}
use Rattle.end_model.specs.Tunnels.{Tunnel, Turn, Recovering, mode_of}
use Rattle.end_model.specs.Recovering.{RecoveryTurn}
use Rattle.end_model.specs.Events.{changed_at, with_calls, tunnel_after}
use Rattle.end_model.specs.End.{End, tunnels_after, after_turn}
use Rattle.tunnel_timers.specs.Due.{earlier, earliest, channel_due, call_due, calls_due, due_of, recovery_due, tunnel_due, tunnels_due, end_due, IsNoLater, left_due, main_changed_due, changed_due}
use Rattle.due_laws.specs.Ticks.{KeepBounds}
use Rattle.tunnel_timers.specs.Moments.{earlier_same, earlier_on, bound_earlier, bound_both, below_bound, bound_holds, found_holds, put_holds, without_holds}

-- ---- one value is put

module _ {X : Type 0} where
  apart_by : (k : ℕ) (e : ℕ × X) (es : List (ℕ × X)) → k < e.0 → without es k ≡ es → (o : Ordering) → nat_cmp k e.0 ≡ o → without (e ∷ es) k ≡ e ∷ es
  unfolding without
  apart_by k e es lt later Less is = rw is (ap (λ xs. e ∷ xs) later)
  apart_by k e es lt later Equal is = absurd (let same = nat_cmp-IsAntisymmetric k e.0 is in omega (arith, lt, same))
  apart_by k e es lt later Greater is = rw is (ap (λ xs. e ∷ xs) later)

  -- where no entry has the id, none is taken out
  apart : (k : ℕ) (es : List (ℕ × X)) → IsAbove k es → without es k ≡ es
  unfolding without
  apart k [] above = refl
  apart k (e ∷ es) above = apart_by k e es above.0 (apart k es above.1) (nat_cmp k e.0) refl

module _ {X : Type 0} (f : ℕ × X → Option ℕ) where
  swapped : (a b c : Option ℕ) → earlier a (earlier b c) ≡ earlier b (earlier a c)
  swapped a b c = earlier_on a b c ∙ ap (λ d. earlier d c) (earlier_same a b) ∙ sym (earlier_on b a c)

  put_moves_by : (e : ℕ × X) (es : List (ℕ × X)) (i : ℕ) (x : X) → IsAbove e.0 es → earliest f (put es i x) ≡ earlier (f (i, x)) (earliest f (without es i))
      → (o : Ordering) → nat_cmp i e.0 ≡ o → earliest f (put (e ∷ es) i x) ≡ earlier (f (i, x)) (earliest f (without (e ∷ es) i))
  unfolding earliest put without
  put_moves_by e es i x above later Less is =
      let rest = apart i es (lower i e.0 es (less_is i e.0 is) above) in
      rw is (ap (λ xs. earlier (f (i, x)) (earlier (f e) (earliest f xs))) (sym rest))
  put_moves_by e es i x above later Equal is =
      let id : i ≡ e.0 = nat_cmp-IsAntisymmetric i e.0 is in
      rw is (ap (λ q. earlier (f (q, x)) (earliest f es)) (sym id))
  put_moves_by e es i x above later Greater is =
      rw is (ap (earlier (f e)) later ∙ swapped (f e) (f (i, x)) (earliest f (without es i)))

  pub put_moves : (es : List (ℕ × X)) → Ascends es → (i : ℕ) (x : X) → earliest f (put es i x) ≡ earlier (f (i, x)) (earliest f (without es i))
  unfolding earliest put without Ascends
  put_moves [] ascend i x = refl
  put_moves (e ∷ es) ascend i x = put_moves_by e es i x ascend.0 (put_moves es ascend.1 i x) (nat_cmp i e.0) refl

-- ---- a turn

pub puts_move : (tunnels : List (ℕ × Tunnel)) → Ascends tunnels → (i : ℕ) (t : Tunnel)
    → tunnels_due (put tunnels i t) ≡ earlier (tunnel_due t) (tunnels_due (without tunnels i))
puts_move tunnels ascend i t = put_moves (λ x. tunnel_due x.1) tunnels ascend i t

pub turns_move : (e : End) → Ascends e.tunnels → (i : ℕ) (letters : List Letter) (calls : List (ℕ × Call)) (recovery : Option Recovering) (t : Turn)
    → end_due (after_turn e i letters calls recovery t).end
    ≡ (if t.cleared then tunnels_due (without e.tunnels i) else earlier (tunnel_due (tunnel_after t letters calls recovery)) (tunnels_due (without e.tunnels i)))
unfolding after_turn
turns_move e ascend i letters calls recovery t = by t.cleared
  where
    by : (b : Bool) → tunnels_due (tunnels_after e.tunnels i b (tunnel_after t letters calls recovery)) ≡ (if b then tunnels_due (without e.tunnels i) else earlier (tunnel_due (tunnel_after t letters calls recovery)) (tunnels_due (without e.tunnels i)))
    by true = refl
    by false = puts_move e.tunnels ascend i (tunnel_after t letters calls recovery)

-- ---- bounds

module _ (bound : ℕ) where
  changed_by : (s : ℕ) (o : Option Call) (calls : List (ℕ × Call)) → IsNoLater bound (left_due s o) → IsNoLater bound (calls_due calls)
      → IsNoLater bound (calls_due (changed_at calls s o))
  changed_by s None calls new all = without_holds (IsNoLater bound) (bound_holds bound) (λ c. call_due c.0 c.1) calls s all
  changed_by s (Some c) calls new all = put_holds (IsNoLater bound) (bound_holds bound) (λ c. call_due c.0 c.1) calls s c all new

  calls_bound : (cs : List (ℕ × Option Call)) (calls : List (ℕ × Call)) → IsNoLater bound (earliest (λ c. left_due c.0 c.1) cs) → IsNoLater bound (calls_due calls)
      → IsNoLater bound (calls_due (with_calls cs calls))
  unfolding with_calls earliest
  calls_bound [] calls new all = all
  calls_bound (c ∷ cs) calls new all =
      let both = bound_both bound (left_due c.0 c.1) (earliest (λ c. left_due c.0 c.1) cs) new in
      calls_bound cs (changed_at calls c.0 c.1) both.1 (changed_by c.0 c.1 calls both.0 all)

  main_bound : (m : Mode) (t : Turn) (calls : List (ℕ × Call)) → IsNoLater bound (main_changed_due m t) → IsNoLater bound (calls_due calls)
      → IsNoLater bound (due_of m t.control (with_calls t.changed calls))
  main_bound m t calls new all =
      let both = bound_both bound (channel_due m t.control) (earliest (λ c. left_due c.0 c.1) t.changed) new in
      bound_earlier bound (channel_due m t.control) (calls_due (with_calls t.changed calls)) both.0 (calls_bound t.changed calls both.1 all)

  turn_bound : (r : RecoveryTurn) (letters : List Letter) (calls : List (ℕ × Call)) → IsNoLater bound (changed_due r) → IsNoLater bound (calls_due calls)
      → IsNoLater bound (tunnel_due (tunnel_after r.turn letters calls r.recovery))
  turn_bound r letters calls new all =
      let m = mode_of r.recovery in
      let both = bound_both bound (main_changed_due m r.turn) (recovery_due r.recovery) new in
      bound_earlier bound (due_of m r.turn.control (with_calls r.turn.changed calls)) (recovery_due r.recovery) (main_bound m r.turn calls both.0 all) both.1

  after_bound : (e : End) → IsNoLater bound (end_due e) → (i : ℕ) (letters : List Letter) (calls : List (ℕ × Call)) (r : RecoveryTurn)
      → IsNoLater bound (tunnel_due (tunnel_after r.turn letters calls r.recovery)) → IsNoLater bound (end_due (after_turn e i letters calls r.recovery r.turn).end)
  unfolding after_turn
  after_bound e all i letters calls r new = by r.turn.cleared
    where
      by : (b : Bool) → IsNoLater bound (tunnels_due (tunnels_after e.tunnels i b (tunnel_after r.turn letters calls r.recovery)))
      by true = without_holds (IsNoLater bound) (bound_holds bound) (λ x. tunnel_due x.1) e.tunnels i all
      by false = put_holds (IsNoLater bound) (bound_holds bound) (λ x. tunnel_due x.1) e.tunnels i (tunnel_after r.turn letters calls r.recovery) all new

  -- those of a tunnel that was there
  calls_bounded : (t : Tunnel) → IsNoLater bound (tunnel_due t) → IsNoLater bound (calls_due t.calls)
  calls_bounded t h =
      let m = mode_of t.recovery in
      let main = (bound_both bound (due_of m t.control t.calls) (recovery_due t.recovery) h).0 in
      (bound_both bound (channel_due m t.control) (calls_due t.calls) main).1

  no_calls : IsNoLater bound (calls_due [])
  unfolding earliest
  no_calls = tt

  pub bounds_stay : (e : End) → IsNoLater bound (end_due e) → KeepBounds e bound
  bounds_stay e all = record {
    early = λ m lt. below_bound bound m (end_due e) all lt;
    turn = λ i t there r new. (
        let one = found_holds (IsNoLater bound) (bound_holds bound) (λ x. tunnel_due x.1) e.tunnels i t there all in
        after_bound e all i t.letters t.calls r (turn_bound r t.letters t.calls new (calls_bounded t one))
        );
    new = λ i r new. after_bound e all i [] [] r (turn_bound r [] [] new no_calls);
  }
