-- Beginnings of one list.
use Rattle.std.proofs.Common.{◌≡◌, ◌⊎◌, List, [], ◌∷◌, ◌++◌, refl, ap, sym, ◌∙◌, append_assoc, inl, inr}
use mathlib.Core.List.{IsPrefix}

-- each list begins with itself
pub prefix_self : {A : Type 0} (xs : List A) → IsPrefix xs xs
prefix_self [] = ([], refl)
prefix_self (x ∷ xs) = ((prefix_self xs).0, ap (λ ys. x ∷ ys) (prefix_self xs).1)

pub prefix_trans : {A : Type 0} (xs ys zs : List A) → IsPrefix xs ys → IsPrefix ys zs → IsPrefix xs zs
prefix_trans xs ys zs p q = (p.0 ++ q.0, sym (append_assoc xs p.0 q.0) ∙ (ap (λ w. w ++ q.0) p.1 ∙ q.1))

no_nil : {A : Type 0} (y : A) (ys zs : List A) → [] ≡ ys ++ y ∷ zs → ⊥
no_nil y [] zs h = cc
no_nil y (b ∷ ys) zs h = cc

pub no_cut : {A : Type 0} (ys : List A) (y : A) (zs : List A) → [] ≡ ys ++ y ∷ zs → ⊥
no_cut ys y zs h = no_nil y ys zs h

-- where a list with one more at its end is cut, the cut is before that one, or at it
pub cut_at : {A : Type 0} (x y : A) (xs ys zs : List A) → xs ++ x ∷ [] ≡ ys ++ y ∷ zs → ((rest : List A) × (xs ≡ ys ++ y ∷ rest)) ⊎ ((ys ≡ xs) × (y ≡ x))
cut_at x y [] [] zs h = inr (refl, cc)
cut_at x y [] (b ∷ ys) zs h = absurd (no_nil y ys zs cc)
cut_at x y (a ∷ xs) [] zs h = inl (xs, cc)
cut_at x y (a ∷ xs) (b ∷ ys) zs h =
    let heads : a ≡ b = cc in
    let tails : xs ++ x ∷ [] ≡ ys ++ y ∷ zs = cc in
    elim (cut_at x y xs ys zs tails) as (λ _. ((rest : List _) × (a ∷ xs ≡ (b ∷ ys) ++ y ∷ rest)) ⊎ ((b ∷ ys ≡ a ∷ xs) × (y ≡ x))) [
      | inl p ↦ inl (p.0, cc (heads, p.1))
      | inr p ↦ inr (cc (heads, p.0), p.1)
    ]

-- of two beginnings of one list, one begins the other
pub prefixes_compare : {A : Type 0} (xs ys zs : List A) → IsPrefix xs zs → IsPrefix ys zs → IsPrefix xs ys ⊎ IsPrefix ys xs
prefixes_compare [] ys zs p q = inl (ys, refl)
prefixes_compare (x ∷ xs) [] zs p q = inr (x ∷ xs, refl)
prefixes_compare (x ∷ xs) (y ∷ ys) [] p q = absurd (cc (p.1))
prefixes_compare (x ∷ xs) (y ∷ ys) (z ∷ zs) p q =
    let heads : x ≡ y = cc (p.1, q.1) in
    let one : xs ++ p.0 ≡ zs = cc (p.1) in
    let two : ys ++ q.0 ≡ zs = cc (q.1) in
    elim (prefixes_compare xs ys zs (p.0, one) (q.0, two)) as (λ _. IsPrefix (x ∷ xs) (y ∷ ys) ⊎ IsPrefix (y ∷ ys) (x ∷ xs)) [
      | inl r ↦ inl (r.0, cc (heads, r.1))
      | inr r ↦ inr (r.0, cc (heads, r.1))
    ]
