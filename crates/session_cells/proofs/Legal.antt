-- Legal logs.
use Rattle.std.proofs.Common.{◌≡◌, ◌≢◌, ◌==◌, ℕ, Bool, true, false, cond, List, [], ◌∷◌, ◌++◌, refl, ap, sym, ◌∙◌, subst, append_assoc, arith, inl, inr}
use Rattle.std.proofs.lemmas.List.{append-nil}
use Rattle.std.proofs.lemmas.Bool.Decides.{nat_tests}
use mathlib.Core.List.{IsPrefix}
use Rattle.session_cells.specs.declared.entry.Entry.{Entry}
use Rattle.session_cells.specs.declared.entry.Entry.TheVariants.{Bind, Establish, Kill}
use Rattle.session_looks.specs.declared.look.Look.{Look}
use Rattle.session_looks.specs.declared.look.Look.TheVariants.{Unborn, Bound, Established, Dead}
use Rattle.session_cells.specs.Logs.{session_of, changed, look_from, look_after, MayFollow, IsLegal}
use Rattle.session_cells.proofs.Prefixes.{cut_at}
use Rattle.session_cells.proofs.Looks.{FitsLook}

pub look_from-append : (l : Look) (xs ys : List Entry) (i : ℕ) → look_from l (xs ++ ys) i ≡ look_from (look_from l xs i) ys i
look_from-append l [] ys i = refl
look_from-append l (x ∷ xs) ys i = look_from-append (cond (session_of x == i) (changed l x) l) xs ys i

pub look_after-snoc : (xs : List Entry) (y : Entry) (i : ℕ) → look_after (xs ++ y ∷ []) i ≡ cond (session_of y == i) (changed (look_after xs i) y) (look_after xs i)
look_after-snoc xs y i = look_from-append Unborn xs (y ∷ []) i

pub look_after-own : (xs : List Entry) (y : Entry) (i : ℕ) → session_of y ≡ i → look_after (xs ++ y ∷ []) i ≡ changed (look_after xs i) y
look_after-own xs y i own =
    let b : (session_of y == i) ≡ true = grind (arith, nat_tests) in
    look_after-snoc xs y i ∙ ap (λ t. cond t (changed (look_after xs i) y) (look_after xs i)) b

pub look_after-other : (xs : List Entry) (y : Entry) (i : ℕ) → session_of y ≢ i → look_after (xs ++ y ∷ []) i ≡ look_after xs i
look_after-other xs y i other =
    let b : (session_of y == i) ≡ false = grind (arith, nat_tests) in
    look_after-snoc xs y i ∙ ap (λ t. cond t (changed (look_after xs i) y) (look_after xs i)) b

pub legal_nil : IsLegal []
legal_nil [] e rest h = absurd cc
legal_nil (x ∷ before) e rest h = absurd cc

-- an entry that may follow is added
pub legal_snoc : (log : List Entry) (y : Entry) → IsLegal log → MayFollow (look_after log (session_of y)) y → IsLegal (log ++ y ∷ [])
legal_snoc log y legal may before e rest h =
    elim (cut_at y e log before rest h) as (λ _. MayFollow (look_after before (session_of e)) e) [
      | inl p ↦ legal before e p.0 p.1
      | inr p ↦ subst (λ (x : List Entry × Entry). MayFollow (look_after x.0 (session_of x.1)) x.1) (λ i. (sym p.0 i, sym p.1 i)) may
    ]

-- a beginning of a legal log is legal
pub legal_prefix : (xs ys : List Entry) → IsPrefix xs ys → IsLegal ys → IsLegal xs
legal_prefix xs ys p legal before e rest h = legal before e (rest ++ p.0) (sym p.1 ∙ (ap (λ w. w ++ p.0) h ∙ append_assoc before (e ∷ rest) p.0))

module _ (P : Look → Type 0) (kept : (l : Look) (e : Entry) → P l → MayFollow l e → P (changed l e)) (i : ℕ) where
  one_more : (xs : List Entry) (y : Entry) → MayFollow (look_after xs (session_of y)) y → P (look_after xs i) → (b : Bool) → (session_of y == i) ≡ b → P (look_after (xs ++ y ∷ []) i)
  one_more xs y may p true is =
      let own : session_of y ≡ i = grind (arith, nat_tests) in
      let here : MayFollow (look_after xs i) y = subst (λ j. MayFollow (look_after xs j) y) own may in
      subst P (sym (look_after-own xs y i own)) (kept (look_after xs i) y p here)
  one_more xs y may p false is =
      let other : session_of y ≢ i = grind (arith, nat_tests) in
      subst P (sym (look_after-other xs y i other)) p

  -- what each legal change keeps, a longer legal log keeps
  pub held : (xs ys : List Entry) → IsLegal (xs ++ ys) → P (look_after xs i) → P (look_after (xs ++ ys) i)
  held xs [] legal p = subst (λ l. P (look_after l i)) (sym (append-nil xs)) p
  held xs (y ∷ ys) legal p =
      let all : (xs ++ y ∷ []) ++ ys ≡ xs ++ y ∷ ys = append_assoc xs (y ∷ []) ys in
      subst (λ l. P (look_after l i)) all (held (xs ++ y ∷ []) ys (subst IsLegal (sym all) legal) (one_more xs y (legal xs y ys refl) p (session_of y == i) refl))

fits_changed : (l : Look) (e : Entry) → FitsLook l → MayFollow l e → FitsLook (changed l e)
fits_changed Unborn (Bind i d t p) h may = (may.1, may.2)
fits_changed (Bound t p) (Establish i d) h may = h
fits_changed (Bound t p) (Kill i d) h may = tt
fits_changed (Established t p) (Kill i d) h may = tt
fits_changed Unborn (Establish i d) h may = absurd may
fits_changed Unborn (Kill i d) h may = absurd may
fits_changed (Bound t p) (Bind i d u q) h may = absurd may
fits_changed (Established t p) (Bind i d u q) h may = absurd may
fits_changed (Established t p) (Establish i d) h may = absurd may
fits_changed Dead (Bind i d u q) h may = absurd may
fits_changed Dead (Establish i d) h may = absurd may
fits_changed Dead (Kill i d) h may = absurd may

-- each state after a legal log fits its word
pub fits_after : (log : List Entry) (i : ℕ) → IsLegal log → FitsLook (look_after log i)
fits_after log i legal = held FitsLook fits_changed i [] log legal tt

-- what a state may become
abbrev pub Becomes : Look → Look → Type 0
Becomes Unborn m = Unit {0}
Becomes (Bound t p) Unborn = ⊥
Becomes (Bound t p) (Bound u q) = (t ≡ u) × (p ≡ q)
Becomes (Bound t p) (Established u q) = (t ≡ u) × (p ≡ q)
Becomes (Bound t p) Dead = Unit {0}
Becomes (Established t p) (Established u q) = (t ≡ u) × (p ≡ q)
Becomes (Established t p) Dead = Unit {0}
Becomes (Established t p) m = ⊥
Becomes Dead Dead = Unit {0}
Becomes Dead m = ⊥

becomes_itself : (l : Look) → Becomes l l
becomes_itself Unborn = tt
becomes_itself (Bound t p) = (refl, refl)
becomes_itself (Established t p) = (refl, refl)
becomes_itself Dead = tt

becomes_changed : (l m : Look) (e : Entry) → Becomes l m → MayFollow m e → Becomes l (changed m e)
becomes_changed Unborn m e h may = tt
becomes_changed (Bound t p) Unborn e h may = absurd h
becomes_changed (Bound t p) (Bound u q) (Bind i d v r) h may = absurd may
becomes_changed (Bound t p) (Bound u q) (Establish i d) h may = h
becomes_changed (Bound t p) (Bound u q) (Kill i d) h may = tt
becomes_changed (Bound t p) (Established u q) (Bind i d v r) h may = absurd may
becomes_changed (Bound t p) (Established u q) (Establish i d) h may = absurd may
becomes_changed (Bound t p) (Established u q) (Kill i d) h may = tt
becomes_changed (Bound t p) Dead (Bind i d v r) h may = absurd may
becomes_changed (Bound t p) Dead (Establish i d) h may = absurd may
becomes_changed (Bound t p) Dead (Kill i d) h may = absurd may
becomes_changed (Established t p) Unborn e h may = absurd h
becomes_changed (Established t p) (Bound u q) e h may = absurd h
becomes_changed (Established t p) (Established u q) (Bind i d v r) h may = absurd may
becomes_changed (Established t p) (Established u q) (Establish i d) h may = absurd may
becomes_changed (Established t p) (Established u q) (Kill i d) h may = tt
becomes_changed (Established t p) Dead (Bind i d v r) h may = absurd may
becomes_changed (Established t p) Dead (Establish i d) h may = absurd may
becomes_changed (Established t p) Dead (Kill i d) h may = absurd may
becomes_changed Dead Unborn e h may = absurd h
becomes_changed Dead (Bound u q) e h may = absurd h
becomes_changed Dead (Established u q) e h may = absurd h
becomes_changed Dead Dead (Bind i d v r) h may = absurd may
becomes_changed Dead Dead (Establish i d) h may = absurd may
becomes_changed Dead Dead (Kill i d) h may = absurd may

-- a cell goes forward only, as the log grows
pub becomes_later : (xs ys : List Entry) (i : ℕ) → IsPrefix xs ys → IsLegal ys → Becomes (look_after xs i) (look_after ys i)
becomes_later xs ys i p legal =
    let from = look_after xs i in
    subst (λ l. Becomes from (look_after l i)) p.1
    (held (λ m. Becomes from m) (λ m e. becomes_changed from m e) i xs p.0 (subst IsLegal (sym p.1) legal) (becomes_itself from))
