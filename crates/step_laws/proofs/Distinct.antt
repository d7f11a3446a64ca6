-- Lists of ids in which none is twice.
use Rattle.std.proofs.Common.{◌≡◌, ◌⊎◌, inl, inr, ⊎_elim, ℕ, ◌<◌, true, zero, suc, List, [], ◌∷◌, ◌++◌, length, refl, sym, subst, Option, Some, None, arith}
use Rattle.std.proofs.lemmas.List.Kept.{AllPairs-cons}
use Rattle.std.specs.Prelude.{is_some, slice_index_or}
use Rattle.std.specs.List.{AllPairs}
use Rattle.id_table.specs.Ids.{at, ids_of}
use Rattle.id_table.specs.Order.{Ascends, at-above}
use Rattle.step_laws.specs.Letters.{Among}
use Rattle.step_laws.proofs.Lists.{none_not_among}

-- one id after the other
abbrev pub AreDistinct : List ℕ → Type 0
AreDistinct [] = Unit {0}
AreDistinct (x ∷ xs) = (Among x xs → ⊥) × AreDistinct xs

-- what is in two lists is in one of them
pub among_either : {X : Type 0} (x : X) (xs ys : List X) → Among x (xs ++ ys) → Among x xs ⊎ Among x ys
among_either x [] ys h = inr h
among_either x (q ∷ xs) ys h = ⊎_elim
    (λ a. inl (inl a))
    (λ a. ⊎_elim (λ l. inl (inr l)) (λ r. inr r) (among_either x xs ys a))
    h

pub distinct_append : (xs ys : List ℕ) → AreDistinct xs → AreDistinct ys → ((q : ℕ) → Among q xs → Among q ys → ⊥) → AreDistinct (xs ++ ys)
distinct_append [] ys h k apart = k
distinct_append (x ∷ xs) ys h k apart = (
  (λ a. ⊎_elim (λ l. h.0 l) (λ r. apart x (inl refl) r) (among_either x xs ys a)),
  distinct_append xs ys h.1 k (λ q l r. apart q (inr l) r),
)

-- where each id of a list is one that has this, so has the one at an index
indexed : (xs : List ℕ) (i d : ℕ) → i < length xs → Among (slice_index_or xs i d) xs
indexed [] i d low = absurd (omega (arith, low))
indexed (x ∷ xs) zero d low = inl refl
indexed (x ∷ xs) (suc i) d low = inr (indexed xs i d (omega (arith, low)))

pub distinct_pairs : (xs : List ℕ) → AreDistinct xs → AllPairs (λ before after. before ≡ after → ⊥) xs
distinct_pairs [] h = λ i j d low lower. absurd (omega (arith, lower))
distinct_pairs (x ∷ xs) h =
    AllPairs-cons (λ before after. before ≡ after → ⊥) x xs
    (λ k d low same. h.0 (subst (λ q. Among q xs) (sym same) (indexed xs k d low)))
    (distinct_pairs xs h.1)

module _ {X : Type 0} where
  -- so are the ids of a table
  pub distinct_ids : (es : List (ℕ × X)) → Ascends es → AreDistinct (ids_of es)
  unfolding Ascends
  distinct_ids [] order = tt
  distinct_ids (e ∷ es) order = (none_not_among es e.0 (at-above e.0 es order.0), distinct_ids es order.1)

  -- what is among them is there
  pub among_there : (es : List (ℕ × X)) (q : ℕ) → Among q (ids_of es) → is_some (at es q) ≡ true
  among_there es q a = by (at es q) refl
    where
      by : (o : Option X) → at es q ≡ o → is_some o ≡ true
      by (Some x) is = refl
      by None is = absurd (none_not_among es q is a)
