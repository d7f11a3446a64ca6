-- What is found at a place of a list that goes on.
use Rattle.std.proofs.Common.{◌≡◌, ◌⊎◌, inl, inr, ⊎_elim, ℕ, zero, suc, ◌<◌, ◌≤◌, List, [], ◌∷◌, ◌++◌, length, refl, ap, subst, Some, arith}
use Rattle.std.proofs.lemmas.Bool.Decides.{leb_tells}
use Rattle.std.specs.Prelude.{slice_get}
use Rattle.std.specs.List.{AllByRecursion}

-- what is in a list is in a longer one
pub got_left : {X : Type 0} (xs ys : List X) (k : ℕ) (x : X) → slice_get xs k ≡ Some x → slice_get (xs ++ ys) k ≡ Some x
got_left [] ys k x h = absurd (cc)
got_left (y ∷ xs) ys zero x h = h
got_left (y ∷ xs) ys (suc k) x h = got_left xs ys k x h

-- the last one is at the length of the others
pub got_last : {X : Type 0} (xs : List X) (y : X) → slice_get (xs ++ y ∷ []) (length xs) ≡ Some y
got_last [] y = refl
got_last (x ∷ xs) y = got_last xs y

-- what is in a list with one more is the last one, or was there
pub got_in : {X : Type 0} (xs : List X) (y : X) (k : ℕ) (x : X) → slice_get (xs ++ y ∷ []) k ≡ Some x
    → (slice_get xs k ≡ Some x) ⊎ ((k ≡ length xs) × (y ≡ x))
got_in [] y zero x h = inr (refl, cc)
got_in [] y (suc k) x h = absurd (cc)
got_in (z ∷ xs) y zero x h = inl h
got_in (z ∷ xs) y (suc k) x h = ⊎_elim (λ a. inl a) (λ (a : (k ≡ length xs) × (y ≡ x)). inr (ap suc a.0, a.1)) (got_in xs y k x h)

pub le_or_lt : (a b : ℕ) → (a ≤ b) ⊎ (b < a)
le_or_lt a b = ⊎_elim (λ h. inl h.1) (λ h. inr h.1) (leb_tells a b)

pub got_below : {X : Type 0} (xs : List X) (k : ℕ) (x : X) → slice_get xs k ≡ Some x → k < length xs
got_below [] k x h = absurd (cc)
got_below (y ∷ xs) zero x h = omega arith
got_below (y ∷ xs) (suc k) x h = let lt = got_below xs k x h in omega arith

pub all_at : {X : Type 0} (P : X → Type 0) (xs : List X) (k : ℕ) (x : X) → slice_get xs k ≡ Some x → AllByRecursion P xs → P x
all_at P [] k x is h = absurd (cc)
all_at P (y ∷ xs) zero x is h = let e : y ≡ x = cc in subst P e h.0
all_at P (y ∷ xs) (suc k) x is h = all_at P xs k x is h.1
