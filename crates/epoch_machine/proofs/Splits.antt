-- A function that was given a value at one name, at any name.
use Rattle.std.proofs.Common.{◌≡◌, ◌⊎◌, inl, inr, ℕ, Bool, true, false, cond, eqb, refl, sym, ap, ◌∙◌}
use Rattle.std.proofs.lemmas.Bool.{eqb-true, eqb-false}
use Rattle.epoch_machine.specs.Names.{assign}

pub same_or_not : (m n : ℕ) → (m ≡ n) ⊎ (m ≡ n → ⊥)
same_or_not m n = by (eqb m n) refl
  where
    by : (b : Bool) → eqb m n ≡ b → (m ≡ n) ⊎ (m ≡ n → ⊥)
    by true e = inl (eqb-true m n e)
    by false e = inr (eqb-false m n e)

pub at_name : {X : Type 0} (f : ℕ → X) (k : ℕ) (v : X) (n : ℕ) (P : X → Type 0) → (n ≡ k → P v) → ((n ≡ k → ⊥) → P (f n)) → P (assign f k v n)
at_name f k v n P here there = by (eqb n k) refl
  where
    by : (b : Bool) → eqb n k ≡ b → P (cond b v (f n))
    by true e = here (eqb-true n k e)
    by false e = there (eqb-false n k e)

-- a value that is chosen by a test
pub chosen : {X : Type 0} (P : X → Type 0) (b : Bool) (x y : X) → (b ≡ true → P x) → (b ≡ false → P y) → P (cond b x y)
chosen P true x y p q = p refl
chosen P false x y p q = q refl

pub assigned_here : {X : Type 0} (f : ℕ → X) (k : ℕ) (v : X) → f k ≡ v → (n : ℕ) → assign f k v n ≡ f n
assigned_here f k v e n = at_name f k v n (λ y. y ≡ f n) (λ same. sym e ∙ ap f (sym same)) (λ other. refl)

-- a value that stood there already
pub assigned_again : {X : Type 0} (f : ℕ → X) (k : ℕ) (v : X) → f k ≡ v → assign f k v ≡ f
assigned_again f k v e = λ i n. assigned_here f k v e n i

pub assigned_now : {X : Type 0} (f : ℕ → X) (k : ℕ) (v : X) → assign f k v k ≡ v
assigned_now f k v = at_name f k v k (λ y. y ≡ v) (λ same. refl) (λ other. absurd (other refl))

pub assigned_else : {X : Type 0} (f : ℕ → X) (k : ℕ) (v : X) (n : ℕ) → (n ≡ k → ⊥) → assign f k v n ≡ f n
assigned_else f k v n h = at_name f k v n (λ y. y ≡ f n) (λ same. absurd (h same)) (λ other. refl)
