-- Tables whose ids ascend, as every table does.
use Rattle.std.specs.Prelude.{◌≡◌, ◌⊎◌, ℕ, Bool, true, false, cond, List, [], ◌∷◌, Some, None}
use Rattle.std.specs.List.{AllByRecursion}
use Rattle.std.specs.declared.cmp.Ordering.{Ordering}
use Rattle.std.specs.declared.cmp.Ordering.TheVariants.{Less, Equal, Greater}
use Rattle.std.specs.Ordering.{nat_cmp}
use Rattle.std.specs.FinMap.{nat_cmp-IsAntisymmetric}
use Rattle.std.proofs.Common.{refl, ap, sym, ◌∙◌, subst, ⊎_elim, arith, ◌<◌, inl, inr, eqb}
use Rattle.std.proofs.lemmas.Bool.{eqb-true, eqb-false, ne_eqb, eq-eqb}
use Rattle.std.proofs.lemmas.Bool.Decides.{nat_tests}
use Rattle.std.proofs.lemmas.Option.{none-some}
use Rattle.id_table.specs.Ids.{at, put, without, at-put, at-none, at-cons, is_at-same}

pub less_is : (k q : ℕ) → nat_cmp k q ≡ Less → k < q
less_is k q h = grind (arith, nat_tests)

greater_is : (k q : ℕ) → nat_cmp k q ≡ Greater → q < k
greater_is k q h = grind (arith, nat_tests)

module _ {X : Type 0} where
  -- each id is above k
  abbrev pub IsAbove : ℕ → List (ℕ × X) → Type 0
  IsAbove k es = AllByRecursion (λ e. k < e.0) es

  unfoldable pub Ascends : List (ℕ × X) → Type 0
  Ascends [] = Unit {0}
  Ascends (e ∷ es) = IsAbove e.0 es × Ascends es

  pub lower : (k q : ℕ) (es : List (ℕ × X)) → k < q → IsAbove q es → IsAbove k es
  lower k q [] lt h = tt
  lower k q (e ∷ es) lt h = ((let a = h.0 in omega arith), lower k q es lt h.1)

  at-above_by : (k : ℕ) (e : ℕ × X) (es : List (ℕ × X)) → k < e.0 → at es k ≡ None → (o : Ordering) → nat_cmp k e.0 ≡ o → at (e ∷ es) k ≡ None
  unfolding at
  at-above_by k e es lt ih Less h = rw h ih
  at-above_by k e es lt ih Equal h = absurd (let s = nat_cmp-IsAntisymmetric k e.0 h in omega arith)
  at-above_by k e es lt ih Greater h = rw h ih

  -- there is none below the first
  pub at-above : (k : ℕ) (es : List (ℕ × X)) → IsAbove k es → at es k ≡ None
  unfolding at
  at-above k [] h = refl
  at-above k (e ∷ es) h = at-above_by k e es h.0 (at-above k es h.1) (nat_cmp k e.0) refl

  above-put_by : (q k : ℕ) (v : X) (e : ℕ × X) (es : List (ℕ × X)) → q < k → q < e.0 → IsAbove q es → IsAbove q (put es k v) → (o : Ordering) → nat_cmp k e.0 ≡ o → IsAbove q (put (e ∷ es) k v)
  unfolding put
  above-put_by q k v e es lt first above ih Less h = rw h (lt, (first, above))
  above-put_by q k v e es lt first above ih Equal h = rw h (first, above)
  above-put_by q k v e es lt first above ih Greater h = rw h (first, ih)

  above-put : (q k : ℕ) (v : X) (es : List (ℕ × X)) → q < k → IsAbove q es → IsAbove q (put es k v)
  unfolding put
  above-put q k v [] lt h = (lt, tt)
  above-put q k v (e ∷ es) lt h = above-put_by q k v e es lt h.0 h.1 (above-put q k v es lt h.1) (nat_cmp k e.0) refl

  ascends-put_by : (k : ℕ) (v : X) (e : ℕ × X) (es : List (ℕ × X)) → IsAbove e.0 es → Ascends es → Ascends (put es k v) → (o : Ordering) → nat_cmp k e.0 ≡ o → Ascends (put (e ∷ es) k v)
  unfolding put Ascends
  ascends-put_by k v e es above s ih Less h = let lt = less_is k e.0 h in rw h ((lt, lower k e.0 es lt above), (above, s))
  ascends-put_by k v e es above s ih Equal h = rw h (above, s)
  ascends-put_by k v e es above s ih Greater h = rw h (above-put e.0 k v es (greater_is k e.0 h) above, ih)

  pub ascends-empty : (es : List (ℕ × X)) → es ≡ [] → Ascends es
  unfolding Ascends
  ascends-empty [] e = tt
  ascends-empty (x ∷ es) e = absurd cc

  -- a value is put where it belongs
  pub ascends-put : (k : ℕ) (v : X) (es : List (ℕ × X)) → Ascends es → Ascends (put es k v)
  unfolding put Ascends
  ascends-put k v [] h = (tt, tt)
  ascends-put k v (e ∷ es) h = ascends-put_by k v e es h.0 h.1 (ascends-put k v es h.1) (nat_cmp k e.0) refl

  put-again_by : (k : ℕ) (v : X) (e : ℕ × X) (es : List (ℕ × X)) → IsAbove e.0 es → (at es k ≡ Some v → put es k v ≡ es) → at (e ∷ es) k ≡ Some v → (o : Ordering) → nat_cmp k e.0 ≡ o → put (e ∷ es) k v ≡ e ∷ es
  unfolding at put
  put-again_by k v e es above ih found Less h = absurd (none-some v (sym (at-above k es (lower k e.0 es (less_is k e.0 h) above)) ∙ (let g = rw h at found in g)))
  put-again_by k v e es above ih found Equal h = let g = rw h at found in let same : e.1 ≡ v = cc in rw (h, ← same) refl
  put-again_by k v e es above ih found Greater h = let g = rw h at found in rw h (ap (λ t. e ∷ t) (ih g))

  -- a value that is there is put again, and nothing changes
  pub put-again : (k : ℕ) (v : X) (es : List (ℕ × X)) → Ascends es → at es k ≡ Some v → put es k v ≡ es
  unfolding Ascends
  put-again k v [] h found = absurd (none-some v (sym (at-above k [] tt) ∙ found))
  put-again k v (e ∷ es) h found = put-again_by k v e es h.0 (put-again k v es h.1) found (nat_cmp k e.0) refl

-- ---- what is found after a value was put

pub at_new : {X : Type 0} (es : List (ℕ × X)) (k : ℕ) (v : X) → at (put es k v) k ≡ Some v
at_new es k v = rw (at-put es k v k, eq-eqb k k refl) refl

pub at_other : {X : Type 0} (es : List (ℕ × X)) (k : ℕ) (v : X) (q : ℕ) → (q ≡ k → ⊥) → at (put es k v) q ≡ at es q
at_other es k v q h = rw (at-put es k v q, ne_eqb q k h) refl

-- the new value, or another one as before
pub found_put : {X : Type 0} (es : List (ℕ × X)) (k : ℕ) (v : X) (q : ℕ) (x : X) → at (put es k v) q ≡ Some x → ((q ≡ k) × (v ≡ x)) ⊎ ((q ≡ k → ⊥) × (at es q ≡ Some x))
found_put es k v q x h = by (eqb q k) refl (sym (at-put es k v q) ∙ h)
  where
    by : (b : Bool) → eqb q k ≡ b → cond (eqb q k) (Some v) (at es q) ≡ Some x → ((q ≡ k) × (v ≡ x)) ⊎ ((q ≡ k → ⊥) × (at es q ≡ Some x))
    by true e h = inl (eqb-true q k e, (let g = rw e at h in cc))
    by false e h = inr (eqb-false q k e, rw e at h)

pub same_or_not : (m n : ℕ) → (m ≡ n) ⊎ (m ≡ n → ⊥)
same_or_not m n = by (eqb m n) refl
  where
    by : (b : Bool) → eqb m n ≡ b → (m ≡ n) ⊎ (m ≡ n → ⊥)
    by true e = inl (eqb-true m n e)
    by false e = inr (eqb-false m n e)

-- ---- what is found after a value was taken out

module _ {X : Type 0} where
  without_nil : (k : ℕ) → without {X = X} [] k ≡ []
  unfolding without
  without_nil k = refl

  without_cons : (e : ℕ × X) (es : List (ℕ × X)) (k : ℕ) → without (e ∷ es) k ≡ cond (eqb k e.0) es (e ∷ without es k)
  unfolding without
  without_cons e es k = ap (λ b. cond b es (e ∷ without es k)) (is_at-same k e.0)

  pub at_without_other : (es : List (ℕ × X)) (k q : ℕ) → (q ≡ k → ⊥) → at (without es k) q ≡ at es q
  at_without_other [] k q o = rw (without_nil k) refl
  at_without_other (e ∷ es) k q o = rw (without_cons e es k, at-cons e es q) (by (eqb k e.0) refl (at_without_other es k q o))
    where
      by : (b : Bool) → eqb k e.0 ≡ b → at (without es k) q ≡ at es q → at (cond b es (e ∷ without es k)) q ≡ cond (eqb q e.0) (Some e.1) (at es q)
      by true is later = rw (ne_eqb q e.0 (λ s. o (s ∙ sym (eqb-true k e.0 is)))) refl
      by false is later = at-cons e (without es k) q ∙ ap (λ x. cond (eqb q e.0) (Some e.1) x) later

  pub at_without_same : (es : List (ℕ × X)) (k : ℕ) → Ascends es → at (without es k) k ≡ None
  unfolding Ascends
  at_without_same [] k h = rw (without_nil k) (at-none k)
  at_without_same (e ∷ es) k h = rw (without_cons e es k) (by (eqb k e.0) refl (at_without_same es k h.1))
    where
      by : (b : Bool) → eqb k e.0 ≡ b → at (without es k) k ≡ None → at (cond b es (e ∷ without es k)) k ≡ None
      by true is later = at-above k es (subst (λ n. IsAbove n es) (sym (eqb-true k e.0 is)) h.0)
      by false is later = at-cons e (without es k) k ∙ rw is later

  above_without : (q k : ℕ) (es : List (ℕ × X)) → IsAbove q es → IsAbove q (without es k)
  above_without q k [] h = rw (without_nil k) tt
  above_without q k (e ∷ es) h = rw (without_cons e es k) (by (eqb k e.0) (above_without q k es h.1))
    where
      by : (b : Bool) → IsAbove q (without es k) → IsAbove q (cond b es (e ∷ without es k))
      by true later = h.1
      by false later = (h.0, later)

  pub ascends-without : (k : ℕ) (es : List (ℕ × X)) → Ascends es → Ascends (without es k)
  unfolding Ascends
  ascends-without k [] h = rw (without_nil k) tt
  ascends-without k (e ∷ es) h = rw (without_cons e es k) (by (eqb k e.0) (above_without e.0 k es h.0) (ascends-without k es h.1))
    where
      by : (b : Bool) → IsAbove e.0 (without es k) → Ascends (without es k) → Ascends (cond b es (e ∷ without es k))
      by true above later = h.1
      by false above later = (above, later)

  -- what is found after a value was taken out was there, under another id
  pub found_without : (es : List (ℕ × X)) (k q : ℕ) (x : X) → Ascends es → at (without es k) q ≡ Some x → (q ≡ k → ⊥) × (at es q ≡ Some x)
  found_without es k q x h found = ⊎_elim
      (λ e. absurd (none-some x (sym (at_without_same es k h) ∙ subst (λ n. at (without es k) n ≡ Some x) e found)))
      (λ o. (o, sym (at_without_other es k q o) ∙ found))
      (same_or_not q k)
