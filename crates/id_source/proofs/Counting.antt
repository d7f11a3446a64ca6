-- The numbers that are drawn rise, and without a start they count on.
use Rattle.std.proofs.Common.{◌≡◌, ℕ, ◌+◌, ◌<◌, ◌≤◌, arith, rules, true, false, List, [], ◌∷◌, length, Result, Ok, Err, refl, ap}
use Rattle.std.specs.Prelude.{All, AllPairs}
use Rattle.std.proofs.lemmas.List.Elements.{All-cons}
use Rattle.std.proofs.lemmas.List.Kept.{AllPairs-cons}
use Rattle.id_source.specs.declared.IdError.{IdError}
use Rattle.id_source.specs.Spaces.{Space, space_from, Use, Draws, Raises, Starts, draws, drawn, with_drawn, numbers_drawn, counting_from, CeilingsRise, CountsOn, EachIsDrawnOnce}

draws_next : (s : Space) (n : ℕ) → draws s ≡ Ok n → n ≡ s.next
unfolding draws
draws_next s n e = grind (arith, rules)

-- ---- without a start

counts_with : (s : Space) (us : List Use) (r : Result ℕ IdError) → draws s ≡ r
    → ((t : Space) → numbers_drawn t us ≡ counting_from t.next (length (numbers_drawn t us)))
    → with_drawn r (numbers_drawn (drawn r s) us) ≡ counting_from s.next (length (with_drawn r (numbers_drawn (drawn r s) us)))
unfolding counting_from
counts_with s us (Ok n) e rest = let same = draws_next s n e in rw same (ap (λ ns. s.next ∷ ns) (rest (record s { next = s.next + 1 })))
counts_with s us (Err x) e rest = rest s

not_false : true ≡ false → ⊥
not_false e = cc

pub counts_on : CountsOn
unfolding numbers_drawn counting_from
counts_on s [] e = refl
counts_on s (Draws ∷ us) e = counts_with s us (draws s) refl (λ t. counts_on t us e)
counts_on s (Raises ceiling ∷ us) e = counts_on (record s { ceiling = ceiling }) us e
counts_on s (Starts ∷ us) e = absurd (not_false e)

-- ---- with starts

draws_below : (s : Space) (n : ℕ) → draws s ≡ Ok n → s.next ≤ s.ceiling
unfolding draws
draws_below s n e = grind (arith, rules)

-- they are at least the next one, and each is below those after it
abbrev Rises : ℕ → List ℕ → Type 0
Rises least ns = All (λ n. least ≤ n) ns × AllPairs (λ before after. before < after) ns

rises_with : (s : Space) (us : List Use) (r : Result ℕ IdError) → draws s ≡ r → s.next ≤ s.ceiling + 1
    → ((t : Space) → t.ceiling ≡ s.ceiling → t.next ≤ t.ceiling + 1 → Rises t.next (numbers_drawn t us))
    → Rises s.next (with_drawn r (numbers_drawn (drawn r s) us))
rises_with s us (Ok n) e within rest =
    let same : n ≡ s.next = draws_next s n e in
    let below : s.next ≤ s.ceiling = draws_below s n e in
    let later : List ℕ = numbers_drawn (record s { next = n + 1 }) us in
    let h : Rises (n + 1) later = rest (record s { next = n + 1 }) refl (omega (arith, same, below)) in (
      All-cons (λ m. s.next ≤ m) n later (omega (arith, same)) (λ k d low. omega (arith, same, h.0 k d low)),
      AllPairs-cons (λ before after. before < after) n later (λ k d low. omega (arith, h.0 k d low)) h.1,
    )
rises_with s us (Err x) e within rest = rest s refl within

rises : (s : Space) (us : List Use) → s.next ≤ s.ceiling + 1 → CeilingsRise s.ceiling us → Rises s.next (numbers_drawn s us)
unfolding numbers_drawn
rises s [] within c = ((λ k d low. absurd (omega arith)), (λ i j d low high. absurd (omega arith)))
rises s (Draws ∷ us) within c = rises_with s us (draws s) refl within (λ t same here. rises t us here (rw same c))
rises s (Raises above ∷ us) within c = rises (record s { ceiling = above }) us (omega (arith, within, c.0)) c.1
rises s (Starts ∷ us) within c =
    let h = rises (space_from s.last s.ceiling) us (omega arith) c in ((λ k d low. omega (arith, within, h.0 k d low)), h.1)

pub each_is_drawn_once : EachIsDrawnOnce
each_is_drawn_once s us within c = (rises s us within c).1
