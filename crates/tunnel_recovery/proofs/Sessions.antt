-- The ids of tables, as their values change.
use Rattle.std.proofs.Common.{◌≡◌, ℕ, zero, suc, ◌+◌, ◌<◌, Bool, true, false, cond, length, List, [], ◌∷◌, take, get_or, Option, Some, None, refl, ap, sym, ◌∙◌, arith, eqb}
use Rattle.std.proofs.lemmas.Bool.Decides.{nat_tests}
use Rattle.std.specs.List.{AllByRecursion}
use Rattle.std.specs.List.Sorted.{IsStrictlySortedBy}
use Rattle.std.specs.declared.cmp.Ordering.{Ordering}
use Rattle.std.specs.declared.cmp.Ordering.TheVariants.{Less, Equal, Greater}
use Rattle.std.specs.Ordering.{nat_cmp}
use Rattle.std.specs.Prelude.{nat_lt}
use Rattle.id_table.specs.Ids.{put, without, ids_of, is_at-same}
use Rattle.end_model.specs.declared.tunnel.Call.{Call}
use Rattle.end_model.specs.Events.{with_calls, changed_at}
use Rattle.tunnel_recovery.specs.Left.{id_put, id_without, changed_id, changed_ids}

-- ---- tests by the order of two ids

less_tests : (k i : ℕ) → nat_cmp k i ≡ Less → nat_lt k i ≡ true
less_tests k i h = grind (arith, nat_tests)

equal_tests : (k i : ℕ) → nat_cmp k i ≡ Equal → (nat_lt k i ≡ false) × (eqb k i ≡ true)
equal_tests k i h = (grind (arith, nat_tests), grind (arith, nat_tests))

greater_tests : (k i : ℕ) → nat_cmp k i ≡ Greater → (nat_lt k i ≡ false) × (eqb k i ≡ false)
greater_tests k i h = (grind (arith, nat_tests), grind (arith, nat_tests))

put_before : (k i : ℕ) (is : List ℕ) → nat_cmp k i ≡ Less → id_put k (i ∷ is) ≡ k ∷ i ∷ is
put_before k i is h = rw (less_tests k i h) refl

put_at : (k i : ℕ) (is : List ℕ) → nat_cmp k i ≡ Equal → id_put k (i ∷ is) ≡ i ∷ is
put_at k i is h = let t = equal_tests k i h in rw (t.0, t.1) refl

put_behind : (k i : ℕ) (is : List ℕ) → nat_cmp k i ≡ Greater → id_put k (i ∷ is) ≡ i ∷ id_put k is
put_behind k i is h = let t = greater_tests k i h in rw (t.0, t.1) refl

-- ---- a table's ids after a value is put or taken out

module _ {X : Type 0} where
  ids_put_by : (e : ℕ × X) (es : List (ℕ × X)) (k : ℕ) (v : X) → ids_of (put es k v) ≡ id_put k (ids_of es) → (o : Ordering) → nat_cmp k e.0 ≡ o
      → ids_of (put (e ∷ es) k v) ≡ id_put k (e.0 ∷ ids_of es)
  unfolding put
  ids_put_by e es k v later Less h =
      let this : ids_of (put (e ∷ es) k v) ≡ k ∷ e.0 ∷ ids_of es = rw h refl in this ∙ sym (put_before k e.0 (ids_of es) h)
  ids_put_by e es k v later Equal h =
      let this : ids_of (put (e ∷ es) k v) ≡ e.0 ∷ ids_of es = rw h refl in this ∙ sym (put_at k e.0 (ids_of es) h)
  ids_put_by e es k v later Greater h =
      let this : ids_of (put (e ∷ es) k v) ≡ e.0 ∷ ids_of (put es k v) = rw h refl in
      this ∙ ap (λ is. e.0 ∷ is) later ∙ sym (put_behind k e.0 (ids_of es) h)

  pub ids_put : (es : List (ℕ × X)) (k : ℕ) (v : X) → ids_of (put es k v) ≡ id_put k (ids_of es)
  unfolding put
  ids_put [] k v = refl
  ids_put (e ∷ es) k v = ids_put_by e es k v (ids_put es k v) (nat_cmp k e.0) refl

  ids_cond : (b : Bool) (e : ℕ × X) (es fs : List (ℕ × X)) (is : List ℕ) → ids_of fs ≡ is → ids_of (cond b es (e ∷ fs)) ≡ cond b (ids_of es) (e.0 ∷ is)
  ids_cond true e es fs is h = refl
  ids_cond false e es fs is h = ap (λ js. e.0 ∷ js) h

  without_cons : (e : ℕ × X) (es : List (ℕ × X)) (k : ℕ) → without (e ∷ es) k ≡ cond (eqb k e.0) es (e ∷ without es k)
  unfolding without
  without_cons e es k = ap (λ b. cond b es (e ∷ without es k)) (is_at-same k e.0)

  pub ids_without : (es : List (ℕ × X)) (k : ℕ) → ids_of (without es k) ≡ id_without k (ids_of es)
  unfolding without
  ids_without [] k = refl
  ids_without (e ∷ es) k = ap ids_of (without_cons e es k) ∙ ids_cond (eqb k e.0) e es (without es k) (id_without k (ids_of es)) (ids_without es k)

ids_changed : (es : List (ℕ × Call)) (s : ℕ) (o : Option Call) → ids_of (changed_at es s o) ≡ changed_id (ids_of es) s o
ids_changed es s None = ids_without es s
ids_changed es s (Some c) = ids_put es s c

pub ids_left : (cs : List (ℕ × Option Call)) (es : List (ℕ × Call)) → ids_of (with_calls cs es) ≡ changed_ids cs (ids_of es)
unfolding with_calls changed_ids
ids_left [] es = refl
ids_left (c ∷ cs) es = ids_left cs (changed_at es c.0 c.1) ∙ ap (λ is. changed_ids cs is) (ids_changed es c.0 c.1)

-- ---- ids that are put in their order

after_is : (i j : ℕ) → nat_cmp i j ≡ Less → nat_cmp j i ≡ Greater
after_is i j h = grind (arith, nat_tests)

below_at : (i : ℕ) (is : List ℕ) (k : ℕ) → k < length is → AllByRecursion (λ j. nat_cmp i j ≡ Less) is → nat_cmp i (get_or is k 0) ≡ Less
below_at i [] k lt h = absurd (omega (arith, lt))
below_at i (j ∷ js) zero lt h = h.0
below_at i (j ∷ js) (suc k) lt h = below_at i js k (omega (arith, lt)) h.1

-- the next one stands behind the others
pub put_next : (is : List ℕ) (k : ℕ) → k < length is → IsStrictlySortedBy nat_cmp is → id_put (get_or is k 0) (take k is) ≡ take (suc k) is
unfolding IsStrictlySortedBy
put_next [] k lt h = absurd (omega (arith, lt))
put_next (i ∷ is) zero lt h = refl
put_next (i ∷ is) (suc k) lt h =
    put_behind (get_or is k 0) i (take k is) (after_is i (get_or is k 0) (below_at i is k (omega (arith, lt)) h.0))
    ∙ ap (λ js. i ∷ js) (put_next is k (omega (arith, lt)) h.1)

pub filled_next : {X : Type 0} (es fs : List (ℕ × X)) (v : X) (is : List ℕ) (k : ℕ) → k < length is → IsStrictlySortedBy nat_cmp is → ids_of es ≡ take k is → fs ≡ put es (get_or is k 0) v
    → ids_of fs ≡ take (k + 1) is
filled_next es fs v is k lt up are new =
    let more : suc k ≡ k + 1 = omega arith in
    ap ids_of new ∙ ids_put es (get_or is k 0) v ∙ ap (λ js. id_put (get_or is k 0) js) are ∙ put_next is k lt up ∙ ap (λ n. take n is) more
