-- Values that are taken out of a table, the least id first.
use Rattle.std.specs.Prelude.{◌≡◌, ◌<◌, ◌+◌, ℕ, List, [], ◌∷◌, ◌++◌, length, get_or, drop, map, Some, option_to_list}
use Rattle.std.specs.declared.cmp.Ordering.TheVariants.{Equal}
use Rattle.std.specs.Ordering.{nat_cmp}
use Rattle.std.proofs.Common.{refl, ap, sym, ◌∙◌, arith, eqb, drop-cons, append_assoc, add-one}
use Rattle.std.proofs.lemmas.Bool.{eq-eqb}
use Rattle.std.proofs.lemmas.List.{append-nil}
use Rattle.id_table.specs.Ids.{at, without, ids_of, at-cons, is_at-same}

cons_drop : (is : List ℕ) (k : ℕ) → k < length is → drop k is ≡ get_or is k 0 ∷ drop (k + 1) is
cons_drop is k lt = rw add-one (drop-cons is k 0 lt)

module _ {X : Type 0} where
  abbrev pub values_of : List (ℕ × X) → List X
  values_of es = map (λ e. e.1) es

  at_first : (e : ℕ × X) (es : List (ℕ × X)) → at (e ∷ es) e.0 ≡ Some e.1
  at_first e es = rw (at-cons e es e.0, eq-eqb e.0 e.0 refl) refl

  without_first : (e : ℕ × X) (es : List (ℕ × X)) → without (e ∷ es) e.0 ≡ es
  unfolding without
  without_first e es = rw (is_at-same e.0 e.0, eq-eqb e.0 e.0 refl) refl

  -- the value with the first id is taken out behind others
  pub first_taken : (es : List (ℕ × X)) (cs : List X) (i : ℕ) (is : List ℕ) → i ∷ is ≡ ids_of es
      → (is ≡ ids_of (without es i)) × ((cs ++ option_to_list (at es i)) ++ values_of (without es i) ≡ cs ++ values_of es)
  first_taken [] cs i is h = absurd cc
  first_taken (e ∷ es) cs i is h =
      let first : i ≡ e.0 = cc in
      let rest : is ≡ ids_of es = cc in
      rw (first, at_first e es, without_first e es) (rest, append_assoc cs (e.1 ∷ []) (values_of es))

  pub next_taken : (es gs : List (ℕ × X)) (cs ds : List X) (is : List ℕ) (k : ℕ) → k < length is → drop k is ≡ ids_of es
      → gs ≡ without es (get_or is k 0) → ds ≡ cs ++ option_to_list (at es (get_or is k 0))
      → (drop (k + 1) is ≡ ids_of gs) × (ds ++ values_of gs ≡ cs ++ values_of es)
  next_taken es gs cs ds is k lt left out took =
      rw (out, took) (first_taken es cs (get_or is k 0) (drop (k + 1) is) (sym (cons_drop is k lt) ∙ left))

  -- none is left
  pub all_taken : (es : List (ℕ × X)) (cs all : List X) → [] ≡ ids_of es → cs ++ values_of es ≡ all → cs ≡ all
  all_taken [] cs all none h = sym (append-nil cs) ∙ h
  all_taken (e ∷ es) cs all none h = absurd cc
