-- How often a number stands in a list.
use Rattle.std.proofs.Common.{◌≡◌, ℕ, ◌+◌, ◌<◌, ◌≤◌, ◌==◌, Bool, true, false, cond, List, [], ◌∷◌, ◌++◌, length, length-append, refl, ap, sym, subst, ◌∙◌, arith}
use Rattle.std.proofs.lemmas.Bool.Decides.{nat_tests}
use Rattle.session_workers.specs.Lists.{times}
use Rattle.session_workers.specs.Passes.{EachOnce}

pub times_append : (n : ℕ) (xs ys : List ℕ) → times n (xs ++ ys) ≡ times n xs + times n ys
times_append n [] ys = omega arith
times_append n (x ∷ xs) ys = let ih = times_append n xs ys in omega arith

-- what is behind a number that wasn't there is there once
pub once_snoc : (xs : List ℕ) (m : ℕ) → EachOnce xs → times m xs ≡ 0 → EachOnce (xs ++ m ∷ [])
once_snoc xs m once none n = by (m == n) refl where
  by : (b : Bool) → (m == n) ≡ b → times n (xs ++ m ∷ []) ≤ 1
  by true is =
      let same : m ≡ n = grind (arith, nat_tests) in
      let e : times n (m ∷ []) ≡ 1 = ap (λ t. cond t 1 0 + 0) is in
      let here : times n xs ≡ 0 = ap (λ k. times k xs) (sym same) ∙ none in
      let s = times_append n xs (m ∷ []) in
      omega arith
  by false is =
      let e : times n (m ∷ []) ≡ 0 = ap (λ t. cond t 1 0 + 0) is in
      let s = times_append n xs (m ∷ []) in
      let o = once n in
      omega arith

pub once_more : (xs ys : List ℕ) (m : ℕ) → ys ≡ xs ++ m ∷ [] → EachOnce xs → times m xs ≡ 0 → EachOnce ys
once_more xs ys m is once none n = subst (λ zs. times n zs ≤ 1) (sym is) (once_snoc xs m once none n)

-- a number that stands in a list, and what is beside it
record Parted (x : ℕ) (ys : List ℕ) : Type 0 where
  front : List ℕ
  back : List ℕ
  is : front ++ x ∷ back ≡ ys

parted_by : (x y : ℕ) (ys : List ℕ) → 0 < times x (y ∷ ys) → (0 < times x ys → Parted x ys) → (b : Bool) → (y == x) ≡ b → Parted x (y ∷ ys)
parted_by x y ys there later true is = let same : y ≡ x = grind (arith, nat_tests) in record { front = []; back = ys; is = ap (λ z. z ∷ ys) (sym same) }
parted_by x y ys there later false is =
    let e : times x (y ∷ ys) ≡ 0 + times x ys = ap (λ t. cond t 1 0 + times x ys) is in
    let p = later (omega arith) in
    record { front = y ∷ p.front; back = p.back; is = ap (λ zs. y ∷ zs) p.is }

parted : (x : ℕ) (ys : List ℕ) → 0 < times x ys → Parted x ys
parted x [] there = absurd (omega arith)
parted x (y ∷ ys) there = parted_by x y ys there (parted x ys) (y == x) refl

own : (n : ℕ) (xs : List ℕ) → times n (n ∷ xs) ≡ 1 + times n xs
own n xs =
    let b : (n == n) ≡ true = grind (arith, nat_tests) in
    ap (λ t. cond t 1 0 + times n xs) b

no_times : (ys : List ℕ) → ((n : ℕ) → 0 ≡ times n ys) → 0 ≡ length ys
no_times [] none = refl
no_times (y ∷ ys) none = let a = none y in let b = own y ys in absurd (omega arith)

-- lists that hold each number as often as one another are as long
pub same_length : (xs ys : List ℕ) → ((n : ℕ) → times n xs ≡ times n ys) → length xs ≡ length ys
same_length [] ys same = no_times ys same
same_length (x ∷ xs) ys same =
    let here = own x xs in
    let there = same x in
    let p = parted x ys (omega arith) in
    let ih = same_length xs (p.front ++ p.back) (λ n.
    let a = same n in
    let b = ap (times n) p.is in
    let c = times_append n p.front (x ∷ p.back) in
    let d = times_append n p.front p.back in
    omega arith) in
    let l = ap length p.is in
    omega (arith, length-append p.front (x ∷ p.back), length-append p.front p.back)
