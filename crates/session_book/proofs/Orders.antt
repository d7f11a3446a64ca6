-- Lists in the order of their ids.
use Rattle.std.proofs.Common.{◌≡◌, ℕ, zero, suc, ◌<◌, ◌≤◌, ◌⊎◌, inl, inr, Bool, true, false, if◌then◌else◌, List, [], ◌∷◌, length, ◌==◌, ltb, get_or, slice_get, take, drop, All, is_some, Some, None, refl, ap, ◌∙◌, arith}
use Rattle.std.specs.List.{prefix_len, insert}
use Rattle.std.specs.List.Sorted.{IsNonDecreasingBy, IsPartitionPoint}
use Rattle.std.proofs.lemmas.Bool.{cases_lt}
use Rattle.std.proofs.lemmas.Bool.Decides.{nat_tests}
use Rattle.std.proofs.lemmas.List.{get_or-map, length-map}
use Rattle.std.proofs.lemmas.List.Elements.{All-cons, All-append, All-take, All-drop}
use Rattle.std.proofs.lemmas.List.Kept.{AllPairs-cons}
use Rattle.session_book.specs.declared.record.BookTunnel.{BookTunnel}
use Rattle.session_book.specs.Books.{AreRising, place, with_id, entry, mark_on, marked}

module _ {X : Type 0} (p : X → Bool) where
  -- where a list is parted by a test, the part that passes is its prefix
  pub prefix_at : (xs : List X) (i : ℕ) → i ≤ length xs → IsPartitionPoint (λ y. p y ≡ true) (λ y. p y ≡ false) xs i → i ≡ prefix_len p xs
  prefix_at [] i le point = omega arith
  prefix_at (x ∷ xs) zero le point = rw (point.1 0 x (omega arith) (omega arith)) refl
  prefix_at (x ∷ xs) (suc i) le point =
      let here : p x ≡ true = point.0 0 x (omega arith) (omega arith) in
      let more : i ≡ prefix_len p xs = prefix_at xs i (omega arith) ((λ k d low high. point.0 (suc k) d (omega arith) (omega arith)), (λ k d low high. point.1 (suc k) d (omega arith) (omega arith))) in
      rw here (omega (arith, more))

is_none : {X : Type 0} (b : Bool) (x : X) → is_some (if b then Some x else None) ≡ false → b ≡ false
is_none true x e = absurd cc
is_none false x e = refl

module _ {X : Type 0} (f : X → ℕ) where
  -- what rises doesn't fall
  pub non_decreasing : (xs : List X) → AreRising f xs → IsNonDecreasingBy f xs
  non_decreasing xs up i j d le within = by (cases_lt i j)
    where
      by : (i < j) ⊎ (j ≤ i) → f (get_or xs i d) ≤ f (get_or xs j d)
      by (inl below) = omega (arith, up i j d below within)
      by (inr other) = let same : i ≡ j = omega arith in omega (arith, ap (λ k. f (get_or xs k d)) same)

  -- one more between those that are below it and those that are above it
  between : (xs : List X) (i : ℕ) (y : X) → i ≤ length xs → ((k : ℕ) (d : X) → k < i → f (get_or xs k d) < f y)
      → ((k : ℕ) (d : X) → i ≤ k → k < length xs → f y < f (get_or xs k d)) → AreRising f xs → AreRising f (insert xs i y)
  between xs zero y le low high up = AllPairs-cons (λ a b. f a < f b) y xs (λ k d within. high k d (omega arith) within) up
  between [] (suc i) y le low high up = absurd (omega arith)
  between (x ∷ xs) (suc i) y le low high up =
      let first : f x < f y = low 0 x (omega arith) in
      let above : All (λ z. f x < f z) xs = λ k d within. up zero (suc k) d (omega arith) (omega arith) in
      let more : AreRising f (insert xs i y) = between xs i y (omega arith) (λ k d below. low (suc k) d (omega arith)) (λ k d from within. high (suc k) d (omega arith) (omega arith)) (λ a b d below within. up (suc a) (suc b) d (omega arith) (omega arith)) in
      let all : All (λ z. f x < f z) (insert xs i y) = All-append (λ z. f x < f z) (take i xs) (y ∷ drop i xs) (All-take (λ z. f x < f z) i xs above) (All-cons (λ z. f x < f z) y (drop i xs) first (All-drop (λ z. f x < f z) i xs above)) in
      AllPairs-cons (λ a b. f a < f b) x (insert xs i y) all more

  -- where no one has an id, the one at a place has another
  other_at : (id : ℕ) (xs : List X) (i : ℕ) (d : X) → i < length xs → is_some (with_id f id (slice_get xs i)) ≡ false → (f (get_or xs i d) == id) ≡ false
  other_at id [] i d within e = absurd (omega arith)
  other_at id (x ∷ xs) zero d within e = is_none (f x == id) x e
  other_at id (x ∷ xs) (suc i) d within e = other_at id xs i d (omega arith) e

  -- one more, whose id no one has, at the place for it
  pub put_rises : (xs : List X) (i : ℕ) (y : X) → i ≤ length xs → IsPartitionPoint (λ z. ltb (f z) (f y) ≡ true) (λ z. ltb (f z) (f y) ≡ false) xs i
      → i ≡ place f (f y) xs → is_some (entry f (f y) xs) ≡ false → AreRising f xs → AreRising f (insert xs i y)
  put_rises xs i y le point at fresh up =
      let none : is_some (with_id f (f y) (slice_get xs i)) ≡ false = ap (λ n. is_some (with_id f (f y) (slice_get xs n))) at ∙ fresh in
      between xs i y le (λ k d below. let h = point.0 k d (omega arith) below in grind (arith, nat_tests)) (λ k d from within.
      let h = point.1 i d (omega arith) (omega arith) in
      let other = other_at (f y) xs i d (omega arith) none in
      let first : f y < f (get_or xs i d) = grind (arith, nat_tests) in
      let later : f (get_or xs i d) ≤ f (get_or xs k d) = non_decreasing xs up i k d from within in
      omega arith) up

id_stays_by : (b : Bool) (m : ℕ) (t : BookTunnel) → (if b then record t { mark = m } else t).local ≡ t.local
id_stays_by true m t = refl
id_stays_by false m t = refl

id_stays : (id m : ℕ) (t : BookTunnel) → (mark_on id m t).local ≡ t.local
id_stays id m t = id_stays_by (t.local == id) m t

-- a mark leaves the ids as they are
pub marked_rises : (id m : ℕ) (ts : List BookTunnel) → AreRising (λ t. t.local) ts → AreRising (λ t. t.local) (marked id m ts)
marked_rises id m ts up i j d below within =
    let far : j < length ts = omega (arith, within, length-map ts (λ t. mark_on id m t)) in
    let at_i : (get_or (marked id m ts) i d).local ≡ (get_or ts i d).local = ap (λ t. t.local) (get_or-map (λ t. mark_on id m t) ts i d d (omega (arith, below, far))) ∙ id_stays id m _ in
    let at_j : (get_or (marked id m ts) j d).local ≡ (get_or ts j d).local = ap (λ t. t.local) (get_or-map (λ t. mark_on id m t) ts j d d far) ∙ id_stays id m _ in
    rw (at_i, at_j) (up i j d below far)
