-- Moments that may never come: the earlier of two, and the earliest of many.
use Rattle.std.proofs.Common.{◌≡◌, ◌⊎◌, ℕ, ◌+◌, ◌-◌, ◌<◌, Bool, true, false, cond, eqb, List, [], ◌∷◌, Option, Some, None, refl, sym, ap, ◌∙◌, subst, arith}
use Rattle.std.proofs.lemmas.Bool.{eqb-true, and_parts, and_cases, and_from, not-true, not-false, lt-ltb}
use Rattle.std.proofs.lemmas.Bool.Decides.{nat_tests}
use Rattle.std.proofs.lemmas.Option.{none-some}
use Rattle.std.specs.Prelude.{not, ◌&&◌, nat_lt, nat_le, min}
use Rattle.std.specs.declared.cmp.Ordering.{Ordering}
use Rattle.std.specs.declared.cmp.Ordering.TheVariants.{Less, Equal, Greater}
use Rattle.std.specs.Ordering.{nat_cmp}
use Rattle.std.specs.FinMap.{nat_cmp-IsAntisymmetric}
use Rattle.id_table.specs.Ids.{at, put, without, at-none, at-cons}
use Rattle.end_model.specs.Moments.{is_over}
use Rattle.tunnel_timers.specs.Due.{earlier, earliest, is_before, due_after, IsNoLater}

-- ---- one moment

not_yet_by : (limit kept m : ℕ) → 0 < limit → nat_lt m (kept + limit) ≡ not (nat_le limit (m - kept))
not_yet_by limit kept m some = grind (arith, nat_tests)

-- it has come exactly where so much time has passed
pub not_yet : (waits : Bool) (limit kept m : ℕ) → 0 < limit → is_before m (due_after waits limit kept) ≡ not (waits && is_over limit m kept)
not_yet true limit kept m some = not_yet_by limit kept m some
not_yet false limit kept m some = refl

pub waits_still : (waits : Bool) (limit kept m : ℕ) → 0 < limit → is_before m (due_after waits limit kept) ≡ true → (waits && is_over limit m kept) ≡ false
waits_still waits limit kept m some h = not-true _ (sym (not_yet waits limit kept m some) ∙ h)

pub has_come : (waits : Bool) (limit kept m : ℕ) → 0 < limit → is_before m (due_after waits limit kept) ≡ false → (waits && is_over limit m kept) ≡ true
has_come waits limit kept m some h = not-false _ (sym (not_yet waits limit kept m some) ∙ h)

-- ---- the earlier of two

and_one : (b : Bool) → b ≡ (b && true)
and_one true = refl
and_one false = refl

before_by : (m a b : ℕ) → nat_lt m (min a b) ≡ (nat_lt m a && nat_lt m b)
before_by m a b = grind (arith, nat_tests)

pub before_earlier : (m : ℕ) (a b : Option ℕ) → is_before m (earlier a b) ≡ (is_before m a && is_before m b)
before_earlier m None b = refl
before_earlier m (Some a) None = and_one (nat_lt m a)
before_earlier m (Some a) (Some b) = before_by m a b

pub before_both : (m : ℕ) (a b : Option ℕ) → is_before m (earlier a b) ≡ true → (is_before m a ≡ true) × (is_before m b ≡ true)
before_both m a b h = and_parts _ _ (sym (before_earlier m a b) ∙ h)

pub come_either : (m : ℕ) (a b : Option ℕ) → is_before m (earlier a b) ≡ false → (is_before m a ≡ false) ⊎ (is_before m b ≡ false)
come_either m a b h = and_cases _ _ (sym (before_earlier m a b) ∙ h)

pub earlier_none : (a : Option ℕ) → earlier a None ≡ a
earlier_none None = refl
earlier_none (Some a) = refl

min_same : (a b : ℕ) → min a b ≡ min b a
min_same a b = omega arith

min_on : (a b c : ℕ) → min a (min b c) ≡ min (min a b) c
min_on a b c = omega arith

pub earlier_same : (a b : Option ℕ) → earlier a b ≡ earlier b a
earlier_same None None = refl
earlier_same None (Some b) = refl
earlier_same (Some a) None = refl
earlier_same (Some a) (Some b) = ap (λ m. Some m) (min_same a b)

pub earlier_on : (a b c : Option ℕ) → earlier a (earlier b c) ≡ earlier (earlier a b) c
earlier_on None b c = refl
earlier_on (Some a) None c = refl
earlier_on (Some a) (Some b) None = refl
earlier_on (Some a) (Some b) (Some c) = ap (λ m. Some m) (min_on a b c)

-- ---- bounds

pub bound_earlier : (bound : ℕ) (a b : Option ℕ) → IsNoLater bound a → IsNoLater bound b → IsNoLater bound (earlier a b)
bound_earlier bound None b h k = k
bound_earlier bound (Some a) None h k = h
bound_earlier bound (Some a) (Some b) h k = omega (arith, h, k)

pub bound_both : (bound : ℕ) (a b : Option ℕ) → IsNoLater bound (earlier a b) → IsNoLater bound a × IsNoLater bound b
bound_both bound None b h = (tt, h)
bound_both bound (Some a) None h = (h, tt)
bound_both bound (Some a) (Some b) h = (omega (arith, h), omega (arith, h))

pub below_bound : (bound m : ℕ) (due : Option ℕ) → IsNoLater bound due → m < bound → is_before m due ≡ true
below_bound bound m None h lt = refl
below_bound bound m (Some due) h lt = lt-ltb m due (omega (arith, h, lt))

-- ---- the earliest of many

-- what holds of the earlier of two exactly where it holds of both, and of a moment that never comes
pub record HoldsOfBoth (P : Option ℕ → Type 0) : Type 0 where
  pub none : P None
  pub both : (a b : Option ℕ) → P a → P b → P (earlier a b)
  pub parts : (a b : Option ℕ) → P (earlier a b) → P a × P b

pub before_holds : (m : ℕ) → HoldsOfBoth (λ due. is_before m due ≡ true)
before_holds m = record {
  none = refl;
  both = λ a b h k. before_earlier m a b ∙ and_from _ _ h k;
  parts = before_both m;
}

pub bound_holds : (bound : ℕ) → HoldsOfBoth (IsNoLater bound)
bound_holds bound = record { none = tt; both = bound_earlier bound; parts = bound_both bound }

module _ {X : Type 0} (P : Option ℕ → Type 0) (h : HoldsOfBoth P) (f : ℕ × X → Option ℕ) where
  -- it holds of each entry that is found
  pub found_holds : (es : List (ℕ × X)) (i : ℕ) (x : X) → at es i ≡ Some x → P (earliest f es) → P (f (i, x))
  unfolding earliest
  found_holds [] i x there all = absurd (none-some x (sym (at-none i) ∙ there))
  found_holds (e ∷ es) i x there all =
      let parts = h.parts (f e) (earliest f es) all in
      by (eqb i e.0) refl (sym (at-cons e es i) ∙ there) parts.0 (λ later. found_holds es i x later parts.1)
    where
      by : (b : Bool) → eqb i e.0 ≡ b → cond b (Some e.1) (at es i) ≡ Some x → P (f e) → (at es i ≡ Some x → P (f (i, x))) → P (f (i, x))
      by true is got this later =
          let id : i ≡ e.0 = eqb-true i e.0 is in
          let value : e.1 ≡ x = cc in
          subst (λ y. P (f (i, y))) value (subst (λ q. P (f (q, e.1))) (sym id) this)
      by false is got this later = later got

  put_by : (e : ℕ × X) (es : List (ℕ × X)) (i : ℕ) (x : X) → P (f e) → P (earliest f es) → P (f (i, x)) → P (earliest f (put es i x)) → (o : Ordering) → nat_cmp i e.0 ≡ o
      → P (earliest f (put (e ∷ es) i x))
  unfolding earliest put
  put_by e es i x this rest new later Less is = rw is (h.both _ _ new (h.both _ _ this rest))
  put_by e es i x this rest new later Equal is =
      let id : i ≡ e.0 = nat_cmp-IsAntisymmetric i e.0 is in
      rw is (h.both _ _ (subst (λ q. P (f (q, x))) id new) rest)
  put_by e es i x this rest new later Greater is = rw is (h.both _ _ this later)

  -- of a value that is put, and of those that were there
  pub put_holds : (es : List (ℕ × X)) (i : ℕ) (x : X) → P (earliest f es) → P (f (i, x)) → P (earliest f (put es i x))
  unfolding earliest put
  put_holds [] i x all new = h.both _ _ new h.none
  put_holds (e ∷ es) i x all new =
      let parts = h.parts (f e) (earliest f es) all in
      put_by e es i x parts.0 parts.1 new (put_holds es i x parts.1 new) (nat_cmp i e.0) refl

  without_by : (e : ℕ × X) (es : List (ℕ × X)) (i : ℕ) → P (f e) → P (earliest f es) → P (earliest f (without es i)) → (o : Ordering) → nat_cmp i e.0 ≡ o
      → P (earliest f (without (e ∷ es) i))
  unfolding earliest without
  without_by e es i this rest later Less is = rw is (h.both _ _ this later)
  without_by e es i this rest later Equal is = rw is rest
  without_by e es i this rest later Greater is = rw is (h.both _ _ this later)

  -- and of those that are left
  pub without_holds : (es : List (ℕ × X)) (i : ℕ) → P (earliest f es) → P (earliest f (without es i))
  unfolding earliest without
  without_holds [] i all = h.none
  without_holds (e ∷ es) i all =
      let parts = h.parts (f e) (earliest f es) all in
      without_by e es i parts.0 parts.1 (without_holds es i parts.1) (nat_cmp i e.0) refl
