-- Where an answer differs from what was asked for, and what it tells of.
use Rattle.std.proofs.Common.{◌≡◌, ℕ, zero, suc, ◌+◌, ◌<◌, ◌≤◌, ◌==◌, Bool, true, false, List, [], ◌∷◌, ◌++◌, length, drop, get_or, slice_get, Some, None, refl, sym, ap, subst, ◌∙◌, append_assoc, add-one, arith}
use Rattle.std.proofs.Math.Seq.{drop-nil}
use Rattle.wire_base.specs.declared.pair.Pair.{Pair}
use Rattle.session_query.specs.Queries.{agrees, difference, gone_in, gone_if, place_agrees}

-- ---- along the places

left_over : (xs : List Pair) (k n : ℕ) → k < length xs → difference (drop k xs) [] n ≡ Some n
left_over [] k n lt = absurd (omega arith)
left_over (x ∷ xs) zero n lt = refl
left_over (x ∷ xs) (suc k) n lt = left_over xs k n (omega arith)

none_there : (xs : List Pair) (k : ℕ) → k < length xs → place_agrees (slice_get xs k) None ≡ true → ⊥
none_there [] k lt h = omega arith
none_there (x ∷ xs) zero lt h = cc
none_there (x ∷ xs) (suc k) lt h = none_there xs k (omega arith) h

on_by : (xs ys : List Pair) (at n : ℕ) → at < length xs → place_agrees (slice_get xs at) (slice_get ys at) ≡ true
    → difference (drop at xs) (drop at ys) n ≡ difference (drop (suc at) xs) (drop (suc at) ys) (n + 1)
on_by [] ys at n lt h = absurd (omega arith)
on_by (x ∷ xs) [] at n lt h = absurd (none_there (x ∷ xs) at lt h)
on_by (x ∷ xs) (y ∷ ys) zero n lt h = rw h refl
on_by (x ∷ xs) (y ∷ ys) (suc at) n lt h = on_by xs ys at n (omega arith) h

here_by : (xs ys : List Pair) (at n : ℕ) → at < length xs → place_agrees (slice_get xs at) (slice_get ys at) ≡ false
    → difference (drop at xs) (drop at ys) n ≡ Some n
here_by [] ys at n lt h = absurd (omega arith)
here_by (x ∷ xs) [] at n lt h = ap (λ zs. difference (drop at (x ∷ xs)) zs n) (drop-nil at) ∙ left_over (x ∷ xs) at n lt
here_by (x ∷ xs) (y ∷ ys) zero n lt h = rw h refl
here_by (x ∷ xs) (y ∷ ys) (suc at) n lt h = here_by xs ys at n (omega arith) h

-- the rest from a place on differs where the whole does
abbrev pub Rests : List Pair → List Pair → ℕ → Type 0
Rests asked answers at = difference (drop at asked) (drop at answers) at ≡ difference asked answers 0

pub one_agrees : (asked answers : List Pair) (at : ℕ) → at < length asked → place_agrees (slice_get asked at) (slice_get answers at) ≡ true
    → Rests asked answers at → Rests asked answers (at + 1)
one_agrees asked answers at lt is h =
    let next : suc at ≡ at + 1 = omega arith in
    subst (λ k. difference (drop k asked) (drop k answers) (at + 1) ≡ difference asked answers 0) next (sym (on_by asked answers at at lt is) ∙ h)

pub one_differs : (asked answers : List Pair) (at : ℕ) → at < length asked → place_agrees (slice_get asked at) (slice_get answers at) ≡ false
    → Rests asked answers at → Some at ≡ difference asked answers 0
one_differs asked answers at lt is h = sym (here_by asked answers at at lt is) ∙ h

over_by : (xs ys : List Pair) (n : ℕ) → length xs < length ys → difference (drop (length xs) xs) (drop (length xs) ys) n ≡ Some n
over_by [] [] n lt = absurd (omega arith)
over_by [] (y ∷ ys) n lt = refl
over_by (x ∷ xs) [] n lt = absurd (omega arith)
over_by (x ∷ xs) (y ∷ ys) n lt = over_by xs ys n (omega arith)

under_by : (xs ys : List Pair) (n : ℕ) → length ys ≤ length xs → difference (drop (length xs) xs) (drop (length xs) ys) n ≡ None
under_by [] [] n le = refl
under_by [] (y ∷ ys) n le = absurd (omega arith)
under_by (x ∷ xs) [] n le = ap (λ zs. difference (drop (length xs) xs) zs n) (sym (drop-nil (length xs))) ∙ under_by xs [] n (omega arith)
under_by (x ∷ xs) (y ∷ ys) n le = under_by xs ys n (omega arith)

pub too_many : (asked answers : List Pair) (at : ℕ) → at ≡ length asked → length asked < length answers → Rests asked answers at
    → Some (length asked) ≡ difference asked answers 0
too_many asked answers at is lt h = sym (over_by asked answers (length asked) lt) ∙ (let all : Rests asked answers (length asked) = subst (Rests asked answers) is h in all)

pub all_agree : (asked answers : List Pair) (at : ℕ) → at ≡ length asked → length answers ≤ length asked → Rests asked answers at
    → None ≡ difference asked answers 0
all_agree asked answers at is le h = sym (under_by asked answers (length asked) le) ∙ (let all : Rests asked answers (length asked) = subst (Rests asked answers) is h in all)

many_by : (x y : Pair) (xs ys : List Pair) (n : ℕ) (b : Bool) → agrees x y ≡ b → difference (x ∷ xs) (y ∷ ys) n ≡ None
    → (difference xs ys (n + 1) ≡ None → length xs ≡ length ys) → suc (length xs) ≡ suc (length ys)
many_by x y xs ys n true is h more =
    let on : difference (x ∷ xs) (y ∷ ys) n ≡ difference xs ys (n + 1) = rw is refl in
    ap suc (more (sym on ∙ h))
many_by x y xs ys n false is h more =
    let here : difference (x ∷ xs) (y ∷ ys) n ≡ Some n = rw is refl in
    let no : Some n ≡ None = sym here ∙ h in
    absurd cc

-- where nothing differs, there are as many answers
pub as_many : (xs ys : List Pair) (n : ℕ) → difference xs ys n ≡ None → length xs ≡ length ys
as_many [] [] n h = refl
as_many [] (y ∷ ys) n h = absurd cc
as_many (x ∷ xs) [] n h = absurd cc
as_many (x ∷ xs) (y ∷ ys) n h = many_by x y xs ys n (agrees x y) refl h (as_many xs ys (n + 1))

-- ---- what is gone

gone_on : (b : Bool) (q : Pair) (qs : List Pair) → gone_if b q qs ≡ gone_if b q [] ++ qs
gone_on true q qs = refl
gone_on false q qs = refl

gone_by : (xs ys : List Pair) (at : ℕ) (d : Pair) → at < length xs → length xs ≡ length ys
    → gone_in (drop at xs) (drop at ys) ≡ gone_if ((get_or ys at d).sender == 0) (get_or xs at d) [] ++ gone_in (drop (suc at) xs) (drop (suc at) ys)
gone_by [] ys at d lt e = absurd (omega arith)
gone_by (x ∷ xs) [] at d lt e = absurd (omega arith)
gone_by (x ∷ xs) (y ∷ ys) zero d lt e = gone_on (y.sender == 0) x (gone_in xs ys)
gone_by (x ∷ xs) (y ∷ ys) (suc at) d lt e = gone_by xs ys at d (omega arith) (omega (arith, e))

pub one_gone : (asked answers gone more : List Pair) (at : ℕ) (d : Pair) → at < length asked → length asked ≡ length answers
    → more ≡ gone ++ gone_if ((get_or answers at d).sender == 0) (get_or asked at d) []
    → gone ++ gone_in (drop at asked) (drop at answers) ≡ gone_in asked answers
    → more ++ gone_in (drop (at + 1) asked) (drop (at + 1) answers) ≡ gone_in asked answers
one_gone asked answers gone more at d lt e is h = rw add-one (
    let one = gone_if ((get_or answers at d).sender == 0) (get_or asked at d) [] in
    let rest = gone_in (drop (suc at) asked) (drop (suc at) answers) in
    ap (λ xs. xs ++ rest) is ∙ (append_assoc gone one rest ∙ (ap (λ xs. gone ++ xs) (sym (gone_by asked answers at d lt e)) ∙ h)))
