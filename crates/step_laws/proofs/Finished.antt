-- The calls of a tunnel that are established, and those that aren't.
use Rattle.std.proofs.Common.{◌≡◌, ℕ, ◌<◌, Bool, true, false, eqb, List, [], ◌∷◌, refl, sym, ap, ◌∙◌, Some, arith}
use Rattle.std.proofs.lemmas.Bool.{eqb-true, eq-eqb}
use Rattle.std.proofs.lemmas.Bool.Decides.{nat_tests}
use Rattle.std.proofs.lemmas.Option.{none-some}
use Rattle.std.specs.Prelude.{◌==◌, map, filter}
use Rattle.std.specs.List.{AllByRecursion}
use Rattle.std.specs.declared.cmp.Ordering.TheVariants.{Greater}
use Rattle.std.specs.Ordering.{nat_cmp}
use Rattle.id_table.specs.Ids.{at, at-cons, at-none, without, ids_of}
use Rattle.id_table.specs.Order.{IsAbove, Ascends}
use Rattle.end_model.specs.declared.tunnel.Call.{Call}
use Rattle.end_model.specs.Calls.{is_up}
use Rattle.end_model.specs.Events.{with_calls}
use Rattle.end_model.specs.Recovering.{is_unfinished}
use Rattle.step_laws.specs.Moves.{finished_of}
use Rattle.step_laws.proofs.Lists.{branch}
use Rattle.step_laws.proofs.Shutting.{ended, without_first}

other_id : (j k : ℕ) → k < j → (j == k) ≡ false
other_id j k less = grind (arith, nat_tests)

-- the entry that a table has under an id of its own
pub own_entries : (es : List (ℕ × Call)) → Ascends es → AllByRecursion (λ x. at es x.0 ≡ Some x.1) es
unfolding Ascends
own_entries [] sorted = tt
own_entries (e ∷ es) sorted = (at-cons e es e.0 ∙ rw (eq-eqb e.0 e.0 refl) refl, later es sorted.0 (own_entries es sorted.1))
  where
    later : (xs : List (ℕ × Call)) → IsAbove e.0 xs → AllByRecursion (λ x. at es x.0 ≡ Some x.1) xs → AllByRecursion (λ x. at (e ∷ es) x.0 ≡ Some x.1) xs
    later [] above h = tt
    later (x ∷ xs) above h = (at-cons e es x.0 ∙ rw (other_id x.0 e.0 above.0) h.0, later xs above.1 h.1)

-- calls that end behind the first leave it
over_other : (s k : ℕ) → k < s → nat_cmp s k ≡ Greater
over_other s k less = grind (arith, nat_tests)

pub without_later : (e : ℕ × Call) (es : List (ℕ × Call)) (s : ℕ) → e.0 < s → without (e ∷ es) s ≡ e ∷ without es s
unfolding without
without_later e es s less = rw (over_other s e.0 less) refl

first_stays : (ss : List ℕ) (e : ℕ × Call) (es : List (ℕ × Call)) → AllByRecursion (λ s. e.0 < s) ss
    → with_calls (map ended ss) (e ∷ es) ≡ e ∷ with_calls (map ended ss) es
unfolding with_calls
first_stays [] e es over = refl
first_stays (s ∷ ss) e es over = ap (λ xs. with_calls (map ended ss) xs) (without_later e es s over.0) ∙ first_stays ss e (without es s) over.1

pub filter_over : (p : ℕ → Bool) (k : ℕ) (es : List (ℕ × Call)) → IsAbove k es → AllByRecursion (λ s. k < s) (filter p (ids_of es))
filter_over p k [] above = tt
filter_over p k (e ∷ es) above =
    branch (λ (ss : List ℕ). AllByRecursion (λ s. k < s) ss) (p e.0) _ _ (λ yes. (above.0, filter_over p k es above.1)) (λ no. filter_over p k es above.1)

pub at_first : (e : ℕ × Call) (es : List (ℕ × Call)) → at (e ∷ es) e.0 ≡ Some e.1
at_first e es = at-cons e es e.0 ∙ rw (eq-eqb e.0 e.0 refl) refl

pub at_later : (e : ℕ × Call) (es : List (ℕ × Call)) (s : ℕ) → e.0 < s → at (e ∷ es) s ≡ at es s
at_later e es s less = at-cons e es s ∙ rw (other_id s e.0 less) refl

-- so those that are established are left
pub left_finished : (calls es : List (ℕ × Call)) → Ascends es → AllByRecursion (λ x. at calls x.0 ≡ Some x.1) es
    → with_calls (map ended (filter (λ s. is_unfinished (at calls s)) (ids_of es))) es ≡ finished_of es
unfolding with_calls Ascends
left_finished calls [] sorted found = refl
left_finished calls (e ∷ es) sorted found = by (is_up e.1.state) refl (left_finished calls es sorted.1 found.1)
  where
    by : (b : Bool) → is_up e.1.state ≡ b → with_calls (map ended (filter (λ s. is_unfinished (at calls s)) (ids_of es))) es ≡ finished_of es
        → with_calls (map ended (filter (λ s. is_unfinished (at calls s)) (ids_of (e ∷ es)))) (e ∷ es) ≡ finished_of (e ∷ es)
    by true up later =
        let there = found.0 in
        rw (there, up) (first_stays (filter (λ s. is_unfinished (at calls s)) (ids_of es)) e es (filter_over (λ s. is_unfinished (at calls s)) e.0 es sorted.0)
        ∙ ap (λ xs. e ∷ xs) later)
    by false up later =
        let there = found.0 in
        rw (there, up) (ap (λ xs. with_calls (map ended (filter (λ s. is_unfinished (at calls s)) (ids_of es))) xs) (without_first e es) ∙ later)

-- ---- those that are left

above_finished : (k : ℕ) (es : List (ℕ × Call)) → IsAbove k es → IsAbove k (finished_of es)
above_finished k [] above = tt
above_finished k (e ∷ es) above =
    branch (λ (xs : List (ℕ × Call)). IsAbove k xs) (is_up e.1.state) _ _ (λ up. (above.0, above_finished k es above.1)) (λ down. above_finished k es above.1)

pub ascends_finished : (es : List (ℕ × Call)) → Ascends es → Ascends (finished_of es)
unfolding Ascends
ascends_finished [] sorted = tt
ascends_finished (e ∷ es) sorted =
    branch (λ (xs : List (ℕ × Call)). Ascends xs) (is_up e.1.state) _ _
    (λ up. (above_finished e.0 es sorted.0, ascends_finished es sorted.1))
    (λ down. ascends_finished es sorted.1)

-- what is found behind the first isn't the first
found_above : (k : ℕ) (es : List (ℕ × Call)) (s : ℕ) (c : Call) → IsAbove k es → at es s ≡ Some c → (s == k) ≡ false
found_above k [] s c above found = absurd (none-some c (sym (at-none s) ∙ found))
found_above k (e ∷ es) s c above found = by (eqb s e.0) refl (λ later. found_above k es s c above.1 later)
  where
    by : (b : Bool) → eqb s e.0 ≡ b → (at es s ≡ Some c → (s == k) ≡ false) → (s == k) ≡ false
    by true same later = rw (eqb-true s e.0 same) (other_id e.0 k above.0)
    by false other later = later (let g = sym (at-cons e es s) ∙ found in rw other at g)

pub found_finished : (es : List (ℕ × Call)) → Ascends es → (s : ℕ) (c : Call) → at (finished_of es) s ≡ Some c → at es s ≡ Some c
unfolding Ascends
found_finished [] sorted s c found = found
found_finished (e ∷ es) sorted s c found = by (is_up e.1.state) refl (λ later. found_finished es sorted.1 s c later)
  where
    behind : (at (finished_of es) s ≡ Some c → at es s ≡ Some c) → at (finished_of es) s ≡ Some c → at (e ∷ es) s ≡ Some c
    behind later rest = let there = later rest in at-cons e es s ∙ rw (found_above e.0 es s c sorted.0 there) there

    first : (b : Bool) → eqb s e.0 ≡ b → (at (finished_of es) s ≡ Some c → at es s ≡ Some c) → at (e ∷ finished_of es) s ≡ Some c → at (e ∷ es) s ≡ Some c
    first true same later g = at-cons e es s ∙ rw same (let h = sym (at-cons e (finished_of es) s) ∙ g in rw same at h)
    first false other later g = behind later (let h = sym (at-cons e (finished_of es) s) ∙ g in rw other at h)

    by : (b : Bool) → is_up e.1.state ≡ b → (at (finished_of es) s ≡ Some c → at es s ≡ Some c) → at (e ∷ es) s ≡ Some c
    by false down later = behind later (rw down at found)
    by true up later = first (eqb s e.0) refl later (let g : at (e ∷ finished_of es) s ≡ Some c = rw up at found in g)
