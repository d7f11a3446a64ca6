-- The least id with a label is the first that a table has with it.
use Rattle.std.specs.Prelude.{◌≡◌, ℕ, ◌<◌, ◌≤◌, Bool, true, false, List, [], ◌∷◌, Option, Some, None, is_some, option_map, find, nat_lt}
use Rattle.std.specs.declared.cmp.Ordering.{Ordering}
use Rattle.std.specs.declared.cmp.Ordering.TheVariants.{Less, Equal, Greater}
use Rattle.std.specs.Ordering.{nat_cmp}
use Rattle.std.specs.FinMap.{nat_cmp-IsAntisymmetric}
use Rattle.std.proofs.Common.{refl, ap, sym, subst, ◌∙◌, arith, true≢false}
use Rattle.std.proofs.lemmas.Bool.Decides.{nat_tests}
use Rattle.id_table.specs.Ids.{at, put, without, at-none, ids_of}
use Rattle.id_table.specs.Order.{IsAbove, Ascends, less_is, at-above, lower, at_other, at_without_other}
use Rattle.id_index.specs.Keys.{has_label}
use Rattle.id_index.specs.Indexes.{IsFirst, IsWithin}

greater_is : (k q : ℕ) → nat_cmp k q ≡ Greater → q < k
greater_is k q h = grind (arith, nat_tests)

lt_is : (m n : ℕ) → nat_lt m n ≡ true → m < n
lt_is m n h = grind (arith, nat_tests)

ge_is : (m n : ℕ) → nat_lt m n ≡ false → n ≤ m
ge_is m n h = grind (arith, nat_tests)

module _ {X : Type 0} where
  pub within_empty : (es : List (ℕ × X)) → es ≡ [] → IsWithin es
  unfolding IsWithin
  within_empty es empty i past = rw empty (at-none i)

  pub within_put : (es : List (ℕ × X)) (k : ℕ) (v : X) → k < 4294967296 → IsWithin es → IsWithin (put es k v)
  unfolding IsWithin
  within_put es k v few within i past = at_other es k v i (λ e. let l = few in omega (arith, e, l, past)) ∙ within i past

  pub within_without : (es : List (ℕ × X)) (k : ℕ) → k < 4294967296 → IsWithin es → IsWithin (without es k)
  unfolding IsWithin
  within_without es k few within i past = at_without_other es k i (λ e. let l = few in omega (arith, e, l, past)) ∙ within i past

  find_none : (p : ℕ → Bool) (es : List (ℕ × X)) → ((i : ℕ) → p i ≡ false) → find p (ids_of es) ≡ None
  find_none p [] fails = refl
  find_none p (e ∷ es) fails = rw (fails e.0) (find_none p es fails)

  find_least_by : (p : ℕ → Bool) (e : ℕ × X) (es : List (ℕ × X)) (i : ℕ) → IsAbove e.0 es
      → (is_some (at es i) ≡ true → find p (ids_of es) ≡ Some i)
      → is_some (at (e ∷ es) i) ≡ true → p i ≡ true → ((j : ℕ) → j < i → p j ≡ false)
      → (o : Ordering) → nat_cmp i e.0 ≡ o → find p (ids_of (e ∷ es)) ≡ Some i
  unfolding at
  find_least_by p e es i above later there passes least Less h =
      absurd (true≢false (sym there ∙ (let none = at-above i es (lower i e.0 es (less_is i e.0 h) above) in rw (h, none) refl)))
  find_least_by p e es i above later there passes least Equal h =
      subst (λ n. find p (n ∷ ids_of es) ≡ Some i) (nat_cmp-IsAntisymmetric i e.0 h) (rw passes refl)
  find_least_by p e es i above later there passes least Greater h =
      rw (least e.0 (greater_is i e.0 h)) (later (let g = rw h at there in g))

  -- the least that passes is the first, where there is one
  find_least : (p : ℕ → Bool) (es : List (ℕ × X)) (i : ℕ) → Ascends es → is_some (at es i) ≡ true → p i ≡ true
      → ((j : ℕ) → j < i → p j ≡ false) → find p (ids_of es) ≡ Some i
  unfolding Ascends
  find_least p [] i ascends there passes least = absurd (true≢false (sym there ∙ ap is_some (at-none {X = X} i)))
  find_least p (e ∷ es) i ascends there passes least =
      find_least_by p e es i ascends.0 (λ found. find_least p es i ascends.1 found passes least) there passes least (nat_cmp i e.0) refl

  there_is : (f : X → ℕ) (l : ℕ) (o : Option X) → has_label l (option_map f o) ≡ true → is_some o ≡ true
  there_is f l None h = absurd (true≢false (sym h))
  there_is f l (Some x) h = refl

  -- where each value of a table has a label, the least id with one is the first of the table that passes a test for it
  pub first_found : (f : X → ℕ) (es : List (ℕ × X)) (p : ℕ → Bool) (l : ℕ) (o : Option ℕ) → Ascends es → IsWithin es
      → ((i : ℕ) → p i ≡ has_label l (option_map f (at es i))) → IsFirst (λ i. option_map f (at es i)) l o → find p (ids_of es) ≡ o
  unfolding IsFirst IsWithin
  first_found f es p l None ascends within tests none = find_none p es (λ i. by i (nat_lt i 4294967296) refl)
    where
      by : (i : ℕ) (b : Bool) → nat_lt i 4294967296 ≡ b → p i ≡ false
      by i true lt = tests i ∙ none i (lt_is i 4294967296 lt)
      by i false ge = tests i ∙ ap (λ o. has_label l (option_map f o)) (within i (ge_is i 4294967296 ge))
  first_found f es p l (Some i) ascends within tests first =
      find_least p es i ascends (there_is f l (at es i) first.1) (tests i ∙ first.1) (λ j lt. tests j ∙ first.2 j lt)
