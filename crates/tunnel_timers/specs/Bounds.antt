-- Moments as 64 bits hold them, and what stays a bound below what is due.
use Rattle.std.proofs.Common.{◌≡◌, ℕ, ◌<◌, ◌≤◌, Bool, true, false, List, [], ◌∷◌, ◌++◌, Option, Some, None, refl, ap, ◌∙◌, arith}
use Rattle.std.proofs.lemmas.Bool.Decides.{nat_tests}
use Rattle.std.specs.Prelude.{eqb, IsSome, is_some, not, ◌+◌, ◌^◌, ◌-◌, ◌&&◌, min, nat_lt, if◌then◌else◌}
use Rattle.std.specs.List.{AllByRecursion}
use Rattle.std.specs.List.Sorted.{IsStrictlySortedBy}
use Rattle.std.specs.Ordering.{nat_cmp}
use Rattle.std.specs.declared.cmp.Ordering.TheVariants.{Less}
use Rattle.id_table.specs.Ids.{at, put, without, ids_of, at-cons}
use Rattle.id_table.specs.Order.{IsAbove, Ascends}
use Rattle.send_window.specs.Window.{wait_after}
use Rattle.control_channel.specs.Numbers.{Numbers, due_of}
use Rattle.end_model.specs.declared.tunnel.Call.{Call}
use Rattle.end_model.specs.Tunnels.{Tunnel}
use Rattle.tunnel_timers.specs.Due.{earlier, earliest, due_at, earliest_at, repetition_due, call_due, calls_due, tunnel_due, tunnels_due, IsNoLater, bound_of, LeavesOut, NoneLeft, Stays, Waits, IsEarly}
use Rattle.tunnel_timers.specs.Moments.{below_bound, bound_earlier, bound_holds, found_holds, put_holds, without_holds}

-- ---- moments of 64 bits

pub bound_earlier_is : (a b : Option ℕ) → bound_of (earlier a b) ≡ min (bound_of a) (bound_of b)
bound_earlier_is None None = omega arith
bound_earlier_is None (Some b) = omega arith
bound_earlier_is (Some a) None = omega arith
bound_earlier_is (Some a) (Some b) = omega arith

pub bound_is_no_later : (due : Option ℕ) → IsNoLater (bound_of due) due
bound_is_no_later None = tt
bound_is_no_later (Some due) = omega arith

pub no_later_less : (a b : ℕ) (due : Option ℕ) → a ≤ b → IsNoLater b due → IsNoLater a due
no_later_less a b None le h = tt
no_later_less a b (Some due) le h = omega (arith, le, h)

-- the moment that a channel's numbers tell
repetition_by : (frozen out : Bool) (due : ℕ) → bound_of (if frozen then None else (if out then Some (min due (2 ^ 64 - 1)) else None)) ≡ bound_of (if not frozen && out then Some due else None)
repetition_by true out due = refl
repetition_by false true due = omega arith
repetition_by false false due = refl

pub repetition_is : (n : Numbers) → bound_of (due_of n) ≡ bound_of (repetition_due n)
repetition_is n = repetition_by n.frozen (nat_lt 0 n.window.outstanding) (n.window.since + wait_after n.window.repetitions)

-- ---- the earliest of many, by their ids

self_is : (i : ℕ) → eqb i i ≡ true
self_is i = grind (arith, nat_tests)

other_is : (i j : ℕ) → j < i → eqb i j ≡ false
other_is i j lt = grind (arith, nat_tests)

module _ {X : Type 0} where
  -- each of these entries is found by its id
  abbrev pub AreFound : List (ℕ × X) → List (ℕ × X) → Type 0
  AreFound es fs = AllByRecursion (λ e. at es e.0 ≡ Some e.1) fs

  found_further : (e : ℕ × X) (es fs : List (ℕ × X)) → IsAbove e.0 fs → AreFound es fs → AreFound (e ∷ es) fs
  found_further e es [] above found = tt
  found_further e es (x ∷ fs) above found =
      (at-cons e es x.0 ∙ rw (other_is x.0 e.0 above.0) found.0, found_further e es fs above.1 found.1)

  pub all_found : (es : List (ℕ × X)) → Ascends es → AreFound es es
  unfolding Ascends
  all_found [] ascend = tt
  all_found (e ∷ es) ascend = (at-cons e es e.0 ∙ rw (self_is e.0) refl, found_further e es es ascend.0 (all_found es ascend.1))

module _ {X : Type 0} (f : ℕ × X → Option ℕ) where
  earliest_by : (es fs : List (ℕ × X)) → AreFound es fs → earliest_at f es (ids_of fs) ≡ earliest f fs
  unfolding earliest_at earliest
  earliest_by es [] found = refl
  earliest_by es (x ∷ fs) found =
      ap (λ o. earlier (due_at f x.0 o) (earliest_at f es (ids_of fs))) found.0 ∙ ap (earlier (f x)) (earliest_by es fs found.1)

  -- each id has its value
  there_by : (es fs : List (ℕ × X)) → AreFound es fs → AllByRecursion (λ i. IsSome (at es i)) (ids_of fs)
  there_by es [] found = tt
  there_by es (x ∷ fs) found = (ap is_some found.0, there_by es fs found.1)

  pub all_there : (es : List (ℕ × X)) → Ascends es → AllByRecursion (λ i. IsSome (at es i)) (ids_of es)
  all_there es ascend = there_by es es (all_found es ascend)

  -- those with all ids are all of them
  pub earliest_is : (es : List (ℕ × X)) → Ascends es → earliest_at f es (ids_of es) ≡ earliest f es
  earliest_is es ascend = earliest_by es es (all_found es ascend)

-- ---- bounds of a tunnel's calls

-- of no calls
pub calls_none : (bound : ℕ) (calls : List (ℕ × Call)) → calls ≡ [] → IsNoLater bound (calls_due calls)
unfolding earliest
calls_none bound calls none = rw none tt

-- one call more is waited for, or one in another's place
pub calls_put : (bound due now : ℕ) (calls : List (ℕ × Call)) (s : ℕ) (c : Call) → now ≡ min bound due → due ≡ bound_of (call_due s c) → IsNoLater bound (calls_due calls)
    → IsNoLater now (calls_due (put calls s c))
calls_put bound due now calls s c is due_is all =
    let below : now ≤ bound = omega (arith, is) in
    let at_most : now ≤ bound_of (call_due s c) = omega (arith, is, due_is) in
    put_holds (IsNoLater now) (bound_holds now) (λ x. call_due x.0 x.1) calls s c (no_later_less now bound (calls_due calls) below all)
    (no_later_less now (bound_of (call_due s c)) (call_due s c) at_most (bound_is_no_later (call_due s c)))

pub calls_without : (bound : ℕ) (calls : List (ℕ × Call)) (s : ℕ) → IsNoLater bound (calls_due calls) → IsNoLater bound (calls_due (without calls s))
calls_without bound calls s all = without_holds (IsNoLater bound) (bound_holds bound) (λ x. call_due x.0 x.1) calls s all

-- ---- bounds of an end's tunnels

pub tunnels_put : (bound due now : ℕ) (ts : List (ℕ × Tunnel)) (i : ℕ) (t : Tunnel) → now ≡ min bound due → IsNoLater due (tunnel_due t) → IsNoLater bound (tunnels_due ts)
    → IsNoLater now (tunnels_due (put ts i t))
tunnels_put bound due now ts i t is new all =
    let below : now ≤ bound = omega (arith, is) in
    let at_most : now ≤ due = omega (arith, is) in
    put_holds (IsNoLater now) (bound_holds now) (λ x. tunnel_due x.1) ts i t (no_later_less now bound (tunnels_due ts) below all) (no_later_less now due (tunnel_due t) at_most new)

pub tunnels_without : (bound : ℕ) (ts : List (ℕ × Tunnel)) (i : ℕ) → IsNoLater bound (tunnels_due ts) → IsNoLater bound (tunnels_due (without ts i))
tunnels_without bound ts i all = without_holds (IsNoLater bound) (bound_holds bound) (λ x. tunnel_due x.1) ts i all

-- below a bound none of them is due
pub all_early : (bound moment : ℕ) (ts : List (ℕ × Tunnel)) → IsNoLater bound (tunnels_due ts) → moment < bound → (i : ℕ) → IsEarly ts moment i
all_early bound moment ts all lt i t there =
    below_bound bound moment (tunnel_due t) (found_holds (IsNoLater bound) (bound_holds bound) (λ x. tunnel_due x.1) ts i t there all) lt

-- ---- ids that are left out

module _ (P : ℕ → Type 0) where
  pub all_left_out : (is : List ℕ) → ((i : ℕ) → P i) → LeavesOut P is []
  all_left_out [] early = NoneLeft
  all_left_out (i ∷ is) early = Waits i is [] (early i) (all_left_out is early)

  pub stays_last : (is js : List ℕ) (i : ℕ) → LeavesOut P is js → LeavesOut P (is ++ i ∷ []) (js ++ i ∷ [])
  stays_last is js i NoneLeft = Stays i [] [] NoneLeft
  stays_last is js i (Stays k ks ls h) = Stays k (ks ++ i ∷ []) (ls ++ i ∷ []) (stays_last ks ls i h)
  stays_last is js i (Waits k ks ls p h) = Waits k (ks ++ i ∷ []) (ls ++ i ∷ []) p (stays_last ks ls i h)

  pub waits_last : (is js : List ℕ) (i : ℕ) → P i → LeavesOut P is js → LeavesOut P (is ++ i ∷ []) js
  waits_last is js i p NoneLeft = Waits i [] [] p NoneLeft
  waits_last is js i p (Stays k ks ls h) = Stays k (ks ++ i ∷ []) ls (waits_last ks ls i p h)
  waits_last is js i p (Waits k ks ls q h) = Waits k (ks ++ i ∷ []) ls q (waits_last ks ls i p h)

  -- what holds of all ids holds of those that are left
  pub rest_holds : (Q : ℕ → Type 0) (is js : List ℕ) → LeavesOut P is js → AllByRecursion Q is → AllByRecursion Q js
  rest_holds Q is js NoneLeft h = tt
  rest_holds Q is js (Stays k ks ls l) h = (h.0, rest_holds Q ks ls l h.1)
  rest_holds Q is js (Waits k ks ls p l) h = rest_holds Q ks ls l h.1

  pub rest_ascend : (is js : List ℕ) → LeavesOut P is js → IsStrictlySortedBy nat_cmp is → IsStrictlySortedBy nat_cmp js
  unfolding IsStrictlySortedBy
  rest_ascend is js NoneLeft h = h
  rest_ascend is js (Stays k ks ls l) h = (rest_holds (λ j. nat_cmp k j ≡ Less) ks ls l h.0, rest_ascend ks ls l h.1)
  rest_ascend is js (Waits k ks ls p l) h = rest_ascend ks ls l h.1

-- ---- what is a bound of each is one of the earliest

-- below what is left, a bound of the rest is a bound of all
abbrev pub BoundsRest : {X : Type 0} → (ℕ × X → Option ℕ) → List (ℕ × X) → ℕ → List ℕ → List ℕ → Type 0
BoundsRest f es due rest all = (bound : ℕ) → bound ≤ due → IsNoLater bound (earliest_at f es rest) → IsNoLater bound (earliest_at f es all)

module _ {X : Type 0} (f : ℕ × X → Option ℕ) (es : List (ℕ × X)) where
  pub rest_bounds : (due one now : ℕ) (i : ℕ) (is all : List ℕ) → now ≡ min due one → IsNoLater one (due_at f i (at es i)) → BoundsRest f es due (i ∷ is) all → BoundsRest f es now is all
  unfolding earliest_at
  rest_bounds due one now i is all now_is own h bound le rest =
      let below : bound ≤ due = omega (arith, le, now_is) in
      let at_most : bound ≤ one = omega (arith, le, now_is) in
      h bound below (bound_earlier bound (due_at f i (at es i)) (earliest_at f es is) (no_later_less bound one (due_at f i (at es i)) at_most own) rest)

  pub none_bounds : (due : ℕ) (all : List ℕ) → BoundsRest f es due [] all → IsNoLater due (earliest_at f es all)
  unfolding earliest_at
  none_bounds due all h = h due (omega arith) tt
