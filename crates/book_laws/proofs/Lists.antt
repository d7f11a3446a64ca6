-- Lists in the order of their ids.
use Rattle.std.proofs.Common.{◌≡◌, ◌⊎◌, inl, inr, ℕ, zero, suc, ◌+◌, ◌<◌, ◌≤◌, Bool, true, false, cond, ◌&&◌, ◌==◌, eqb, List, [], ◌∷◌, length, filter, map, take, drop, slice_get, All, Option, Some, None, is_some, refl, sym, ◌∙◌, ap, subst, arith}
use Rattle.std.specs.Prelude.{nat_lt, nat_le, nat_eq, option_map}
use Rattle.std.specs.List.{AllByRecursion, insert}
use Rattle.std.specs.declared.cmp.Ordering.{Ordering}
use Rattle.std.specs.declared.cmp.Ordering.TheVariants.{Less, Equal, Greater}
use Rattle.std.specs.Ordering.{nat_cmp}
use Rattle.std.proofs.lemmas.List.Elements.{All-cons, All-append, All-take, All-drop}
use Rattle.std.proofs.lemmas.List.Kept.{AllPairs-cons, AllPairs-filter}
use Rattle.std.proofs.lemmas.Option.{none-some}
use Rattle.std.proofs.lemmas.Bool.{cases_eq, cases_lt}
use Rattle.std.proofs.lemmas.Bool.Decides.{nat_tests}
use Rattle.id_table.specs.Ids.{at, put as id_put, without, at-none, at-cons, is_at-same}
use Rattle.id_table.specs.Order.{IsAbove, Ascends, less_is, lower, at-above, at_without_other}
use Rattle.session_book.specs.Books.{AreRising, place, with_id, entry, put}

pub below : (a b : ℕ) → a < b → nat_lt a b ≡ true
below a b lt = grind (arith, nat_tests)

pub not_below : (a b : ℕ) → b ≤ a → nat_lt a b ≡ false
not_below a b le = grind (arith, nat_tests)

pub within : (a b : ℕ) → a ≤ b → nat_le a b ≡ true
within a b le = grind (arith, nat_tests)

pub same : (a b : ℕ) → a ≡ b → nat_eq a b ≡ true
same a b is = grind (arith, nat_tests)

pub other : (a b : ℕ) → (a ≡ b → ⊥) → nat_eq a b ≡ false
other a b is = elim (cases_eq a b) [
  | inl e ↦ absurd (is e)
  | inr ne ↦ grind (arith, nat_tests)
]

pub of_same : (a b : ℕ) → nat_eq a b ≡ true → a ≡ b
of_same a b is = grind (arith, nat_tests)

pub of_other : (a b : ℕ) → nat_eq a b ≡ false → (a < b) ⊎ (b < a)
of_other a b is = elim (cases_lt a b) [
  | inl lt ↦ inl lt
  | inr le ↦ elim (cases_lt b a) [
    | inl lt ↦ inr lt
    | inr far ↦ let equal : a ≡ b = omega arith in let yes = same a b equal in absurd cc
  ]
]

pub both : (a b : Bool) → a ≡ true → b ≡ true → (a && b) ≡ true
both true true is and = refl
both true false is and = and
both false b is and = is

-- ---- what is so of each

module _ {X : Type 0} where
  pub all_to : (P Q : X → Type 0) → ((x : X) → P x → Q x) → (xs : List X) → AllByRecursion P xs → AllByRecursion Q xs
  all_to P Q f [] all = tt
  all_to P Q f (x ∷ xs) all = (f x all.0, all_to P Q f xs all.1)

  pub all_filter : (P : X → Type 0) (q : X → Bool) (xs : List X) → AllByRecursion P xs → AllByRecursion P (filter q xs)
  all_filter P q [] all = tt
  all_filter P q (x ∷ xs) all = by (q x) (all_filter P q xs all.1)
    where
      by : (b : Bool) → AllByRecursion P (filter q xs) → AllByRecursion P (cond b (x ∷ filter q xs) (filter q xs))
      by true more = (all.0, more)
      by false more = more

  pub all_both : (P Q R : X → Type 0) → ((x : X) → P x → Q x → R x) → (xs : List X) → AllByRecursion P xs → AllByRecursion Q xs → AllByRecursion R xs
  all_both P Q R f [] p q = tt
  all_both P Q R f (x ∷ xs) p q = (f x p.0 q.0, all_both P Q R f xs p.1 q.1)

  by_recursion : (P : X → Type 0) (xs : List X) → All P xs → AllByRecursion P xs
  by_recursion P [] all = tt
  by_recursion P (x ∷ xs) all = (all 0 x (omega arith), by_recursion P xs (λ k d inside. all (suc k) d (omega arith)))

-- ---- tables

module _ {V : Type 0} where
  without_cons : (e : ℕ × V) (es : List (ℕ × V)) (k : ℕ) → without (e ∷ es) k ≡ cond (eqb k e.0) es (e ∷ without es k)
  unfolding without
  without_cons e es k = ap (λ b. cond b es (e ∷ without es k)) (is_at-same k e.0)

  -- one fewer is there without one that is there
  shorter : (es : List (ℕ × V)) (k : ℕ) → is_some (at es k) ≡ true → length (without es k) + 1 ≡ length es
  shorter [] k is = absurd (let h = ap is_some (sym (at-none {X = V} k)) ∙ is in cc)
  shorter (e ∷ es) k is = ap (λ (l : List (ℕ × V)). length l + 1) (without_cons e es k) ∙ by (eqb k e.0) refl (ap is_some (sym (at-cons e es k)) ∙ is) (shorter es k)
    where
      by : (b : Bool) → eqb k e.0 ≡ b → is_some (cond (eqb k e.0) (Some e.1) (at es k)) ≡ true → (is_some (at es k) ≡ true → length (without es k) + 1 ≡ length es)
          → length (cond b es (e ∷ without es k)) + 1 ≡ length (e ∷ es)
      by true e_is h later = omega arith
      by false e_is h later = let g = later (rw e_is at h) in omega (arith, g)

-- ---- lists that rise

module _ {X : Type 0} (f : X → ℕ) where
  -- the first is below the rest, which rises
  pub rises_from : (x : X) (xs : List X) → AreRising f (x ∷ xs) → AllByRecursion (λ z. f x < f z) xs
  rises_from x xs up = by_recursion (λ z. f x < f z) xs (λ k d inside. up zero (suc k) d (omega arith) (omega arith))

  pub rest_rises : (x : X) (xs : List X) → AreRising f (x ∷ xs) → AreRising f xs
  rest_rises x xs up = λ i j d lt inside. up (suc i) (suc j) d (omega arith) (omega arith)

  pub none_rises : AreRising f []
  none_rises = λ i j d lt inside. absurd (omega arith)

  pub filter_rises : (p : X → Bool) (xs : List X) → AreRising f xs → AreRising f (filter p xs)
  filter_rises p xs up = AllPairs-filter (λ a b. f a < f b) p xs up

  -- ---- with an id or not

  pub with_own : (id : ℕ) (x : X) → f x ≡ id → with_id f id (Some x) ≡ Some x
  with_own id x is = ap (λ b. cond b (Some x) None) (same (f x) id is)

  with_other : (id : ℕ) (x : X) → (f x ≡ id → ⊥) → with_id f id (Some x) ≡ None
  with_other id x is = ap (λ b. cond b (Some x) None) (other (f x) id is)

  with_found : (id : ℕ) (x y : X) → with_id f id (Some x) ≡ Some y → (f x ≡ id) × (x ≡ y)
  with_found id x y is = by (f x == id) refl is
    where
      by : (b : Bool) → nat_eq (f x) id ≡ b → cond b (Some x) None ≡ Some y → (f x ≡ id) × (x ≡ y)
      by true e h = (of_same (f x) id e, cc)
      by false e h = absurd (none-some y h)

  none_is : (id : ℕ) (x : X) → is_some (with_id f id (Some x)) ≡ false → nat_eq (f x) id ≡ false
  none_is id x is = by (f x == id) is
    where
      by : (b : Bool) → is_some (cond b (Some x) None) ≡ false → b ≡ false
      by true h = absurd cc
      by false h = refl

  entry_cons : (id : ℕ) (x : X) (xs : List X) → entry f id (x ∷ xs) ≡ cond (nat_lt (f x) id) (entry f id xs) (with_id f id (Some x))
  entry_cons id x xs = by (nat_lt (f x) id) (place f id xs)
    where
      by : (b : Bool) (n : ℕ) → with_id f id (slice_get (x ∷ xs) (cond b (1 + n) 0)) ≡ cond b (with_id f id (slice_get xs n)) (with_id f id (Some x))
      by true n = let more : 1 + n ≡ suc n = omega arith in ap (λ m. with_id f id (slice_get (x ∷ xs) m)) more
      by false n = refl

  put_cons : (y x : X) (xs : List X) → put f y (x ∷ xs) ≡ cond (nat_lt (f x) (f y)) (x ∷ put f y xs) (y ∷ x ∷ xs)
  put_cons y x xs = by (nat_lt (f x) (f y)) (place f (f y) xs)
    where
      by : (b : Bool) (n : ℕ) → insert (x ∷ xs) (cond b (1 + n) 0) y ≡ cond b (x ∷ insert xs n y) (y ∷ x ∷ xs)
      by true n = let more : 1 + n ≡ suc n = omega arith in ap (λ m. insert (x ∷ xs) m y) more
      by false n = refl

  pub entry_later : (id : ℕ) (x : X) (xs : List X) → f x < id → entry f id (x ∷ xs) ≡ entry f id xs
  entry_later id x xs lt = entry_cons id x xs ∙ ap (λ b. cond b (entry f id xs) (with_id f id (Some x))) (below (f x) id lt)

  pub entry_here : (id : ℕ) (x : X) (xs : List X) → id ≤ f x → entry f id (x ∷ xs) ≡ with_id f id (Some x)
  entry_here id x xs le = entry_cons id x xs ∙ ap (λ b. cond b (entry f id xs) (with_id f id (Some x))) (not_below (f x) id le)

  put_later : (y x : X) (xs : List X) → f x < f y → put f y (x ∷ xs) ≡ x ∷ put f y xs
  put_later y x xs lt = put_cons y x xs ∙ ap (λ b. cond b (x ∷ put f y xs) (y ∷ x ∷ xs)) (below (f x) (f y) lt)

  put_here : (y x : X) (xs : List X) → f y ≤ f x → put f y (x ∷ xs) ≡ y ∷ x ∷ xs
  put_here y x xs le = put_cons y x xs ∙ ap (λ b. cond b (x ∷ put f y xs) (y ∷ x ∷ xs)) (not_below (f x) (f y) le)

  -- ---- one is put

  pub length_put : (y : X) (xs : List X) → length (put f y xs) ≡ length xs + 1
  length_put y [] = refl
  length_put y (x ∷ xs) = elim (cases_lt (f x) (f y)) [
    | inl lt ↦ ap length (put_later y x xs lt) ∙ (let l = length_put y xs in omega arith)
    | inr le ↦ ap length (put_here y x xs le) ∙ omega arith
  ]

  -- as many pass as if it stood in front
  pub put_passes : (p : X → Bool) (y : X) (xs : List X) → length (filter p (put f y xs)) ≡ length (filter p (y ∷ xs))
  put_passes p y [] = refl
  put_passes p y (x ∷ xs) = elim (cases_lt (f x) (f y)) [
    | inl lt ↦ ap (λ (l : List X). length (filter p l)) (put_later y x xs lt) ∙ by (p x) (p y) (filter p (put f y xs)) (filter p xs) (put_passes p y xs)
    | inr le ↦ ap (λ (l : List X). length (filter p l)) (put_here y x xs le)
  ]
    where
      by : (a b : Bool) (g h : List X) → length g ≡ length (cond b (y ∷ h) h)
          → length (cond a (x ∷ g) g) ≡ length (cond b (y ∷ cond a (x ∷ h) h) (cond a (x ∷ h) h))
      by true true g h is = omega arith
      by true false g h is = omega arith
      by false true g h is = is
      by false false g h is = is

  pub put_rises : (y : X) (xs : List X) → is_some (entry f (f y) xs) ≡ false → AreRising f xs → AreRising f (put f y xs)
  put_rises y [] new up = λ i j d lt inside. absurd (omega arith)
  put_rises y (x ∷ xs) new up = elim (cases_lt (f x) (f y)) [
    | inl lt ↦
        let above : All (λ z. f x < f z) xs = λ k d inside. up zero (suc k) d (omega arith) (omega arith) in
        let n = place f (f y) xs in
        let all : All (λ z. f x < f z) (put f y xs) = All-append (λ z. f x < f z) (take n xs) (y ∷ drop n xs)
        (All-take (λ z. f x < f z) n xs above) (All-cons (λ z. f x < f z) y (drop n xs) lt (All-drop (λ z. f x < f z) n xs above)) in
        let more = put_rises y xs (ap is_some (sym (entry_later (f y) x xs lt)) ∙ new) (rest_rises x xs up) in
        subst (AreRising f) (sym (put_later y x xs lt)) (AllPairs-cons (λ a b. f a < f b) x (put f y xs) all more)
    | inr le ↦
        let far = none_is (f y) x (ap is_some (sym (entry_here (f y) x xs le)) ∙ new) in
        let lt : f y < f x = elim (of_other (f x) (f y) far) [
          | inl less ↦ absurd (omega arith)
          | inr more ↦ more
        ] in
        let above : All (λ z. f y < f z) xs = λ k d inside. (let h = up zero (suc k) d (omega arith) (omega arith) in omega arith) in
        subst (AreRising f) (sym (put_here y x xs le)) (AllPairs-cons (λ a b. f a < f b) y (x ∷ xs) (All-cons (λ z. f y < f z) x xs lt above) up)
  ]

  -- it is there, and the others are as before
  pub entry_put : (y : X) (xs : List X) → entry f (f y) (put f y xs) ≡ Some y
  entry_put y [] = entry_here (f y) y [] (omega arith) ∙ with_own (f y) y refl
  entry_put y (x ∷ xs) = elim (cases_lt (f x) (f y)) [
    | inl lt ↦ ap (λ (l : List X). entry f (f y) l) (put_later y x xs lt) ∙ entry_later (f y) x (put f y xs) lt ∙ entry_put y xs
    | inr le ↦ ap (λ (l : List X). entry f (f y) l) (put_here y x xs le) ∙ entry_here (f y) y (x ∷ xs) (omega arith) ∙ with_own (f y) y refl
  ]

  pub entry_put_other : (id : ℕ) (y : X) (xs : List X) → (id ≡ f y → ⊥) → entry f id (put f y xs) ≡ entry f id xs
  entry_put_other id y [] o = elim (cases_lt (f y) id) [
    | inl near ↦ entry_later id y [] near
    | inr far ↦ entry_here id y [] far ∙ with_other id y (λ e. o (sym e))
  ]
  entry_put_other id y (x ∷ xs) o = elim (cases_lt (f x) (f y)) [
    | inl lt ↦ ap (λ (l : List X). entry f id l) (put_later y x xs lt) ∙ elim (cases_lt (f x) id) [
      | inl near ↦ entry_later id x (put f y xs) near ∙ entry_put_other id y xs o ∙ sym (entry_later id x xs near)
      | inr far ↦ entry_here id x (put f y xs) far ∙ sym (entry_here id x xs far)
    ]
    | inr le ↦ ap (λ (l : List X). entry f id l) (put_here y x xs le) ∙ elim (cases_lt (f y) id) [
      | inl near ↦ entry_later id y (x ∷ xs) near
      | inr far ↦
          let apart = of_other id (f y) (other id (f y) o) in
          let not_x : f x ≡ id → ⊥ = λ e. (elim apart [
            | inl less ↦ omega (arith, e, less, le)
            | inr more ↦ omega (arith, more, far)
          ]) in
          let less : id ≤ f x = omega (arith, le, far) in
          entry_here id y (x ∷ xs) far ∙ with_other id y (λ e. o (sym e)) ∙ sym (entry_here id x xs less ∙ with_other id x not_x)
    ]
  ]

  -- ---- some are left out

  -- what is found is of the list, and has the id
  pub entry_found : (P : X → Type 0) (id : ℕ) (xs : List X) (y : X) → AllByRecursion P xs → entry f id xs ≡ Some y → (f y ≡ id) × P y
  entry_found P id [] y all is = absurd cc
  entry_found P id (x ∷ xs) y all is = elim (cases_lt (f x) id) [
    | inl near ↦ entry_found P id xs y all.1 (sym (entry_later id x xs near) ∙ is)
    | inr far ↦
        let h = with_found id x y (sym (entry_here id x xs far) ∙ is) in
        (ap f (sym h.1) ∙ h.0, subst P h.1 all.0)
  ]

  all_units : (xs : List X) → AllByRecursion (λ (x : X). Unit {0}) xs
  all_units [] = tt
  all_units (x ∷ xs) = (tt, all_units xs)

  pub entry_has : (id : ℕ) (xs : List X) (y : X) → entry f id xs ≡ Some y → f y ≡ id
  entry_has id xs y is = (entry_found (λ x. Unit {0}) id xs y (all_units xs) is).0

  -- there is none below the first
  entry_above : (id : ℕ) (xs : List X) → AllByRecursion (λ z. id < f z) xs → entry f id xs ≡ None
  entry_above id [] all = refl
  entry_above id (x ∷ xs) all =
      let lt : id < f x = all.0 in
      let le : id ≤ f x = omega (arith, lt) in
      let apart : f x ≡ id → ⊥ = λ e. omega (arith, e, lt) in
      entry_here id x xs le ∙ with_other id x apart

  abbrev pub passing : (X → Bool) → Option X → Option X
  passing p (Some x) = cond (p x) (Some x) None
  passing p None = None

  nothing : (c : Bool) → ◌≡◌ {A = Option X} None (cond c None None)
  nothing true = refl
  nothing false = refl

  pub entry_filter : (p : X → Bool) (id : ℕ) (xs : List X) → AreRising f xs → entry f id (filter p xs) ≡ passing p (entry f id xs)
  entry_filter p id [] up = refl
  entry_filter p id (x ∷ xs) up = by (p x) refl (entry_filter p id xs (rest_rises x xs up))
    where
      own : (b : Bool) → p x ≡ b → passing p (with_id f id (Some x)) ≡ cond b (with_id f id (Some x)) None
      own b is = elim (cases_eq (f x) id) [
        | inl e ↦ ap (passing p) (with_own id x e) ∙ ap (λ c. cond c (Some x) None) is ∙ ap (λ o. cond b o None) (sym (with_own id x e))
        | inr ne ↦ ap (passing p) (with_other id x ne) ∙ nothing b ∙ ap (λ o. cond b o None) (sym (with_other id x ne))
      ]

      by : (b : Bool) → p x ≡ b → entry f id (filter p xs) ≡ passing p (entry f id xs)
          → entry f id (cond b (x ∷ filter p xs) (filter p xs)) ≡ passing p (entry f id (x ∷ xs))
      by true is later = elim (cases_lt (f x) id) [
        | inl near ↦ entry_later id x (filter p xs) near ∙ later ∙ ap (passing p) (sym (entry_later id x xs near))
        | inr far ↦ entry_here id x (filter p xs) far ∙ sym (own true is) ∙ ap (passing p) (sym (entry_here id x xs far))
      ]
      by false is later = elim (cases_lt (f x) id) [
        | inl near ↦ later ∙ ap (passing p) (sym (entry_later id x xs near))
        | inr far ↦
            entry_above id (filter p xs) (all_filter (λ z. id < f z) p xs (all_to (λ z. f x < f z) (λ z. id < f z) (λ z lt. omega (arith, lt, far)) xs (rises_from x xs up)))
            ∙ sym (own false is) ∙ ap (passing p) (sym (entry_here id x xs far))
      ]

  -- ---- each is changed, and keeps its id

  changed_own : (g : X → X) → ((x : X) → f (g x) ≡ f x) → (id : ℕ) (x : X) → with_id f id (Some (g x)) ≡ option_map g (with_id f id (Some x))
  changed_own g stays id x = elim (cases_eq (f x) id) [
    | inl e ↦ with_own id (g x) (stays x ∙ e) ∙ ap (option_map g) (sym (with_own id x e))
    | inr ne ↦ with_other id (g x) (λ e. ne (sym (stays x) ∙ e)) ∙ ap (option_map g) (sym (with_other id x ne))
  ]

  pub entry_map : (g : X → X) → ((x : X) → f (g x) ≡ f x) → (id : ℕ) (xs : List X) → entry f id (map g xs) ≡ option_map g (entry f id xs)
  entry_map g stays id [] = refl
  entry_map g stays id (x ∷ xs) =
      let own = stays x in
      elim (cases_lt (f x) id) [
        | inl near ↦ entry_later id (g x) (map g xs) (omega (arith, own, near)) ∙ entry_map g stays id xs ∙ ap (option_map g) (sym (entry_later id x xs near))
        | inr far ↦ entry_here id (g x) (map g xs) (omega (arith, own, far)) ∙ changed_own g stays id x ∙ ap (option_map g) (sym (entry_here id x xs far))
      ]

  -- ---- how many there are

  -- what is so of whatever is found is so of each
  pub all_found : (P : X → Type 0) (xs : List X) → AreRising f xs → ((id : ℕ) (x : X) → entry f id xs ≡ Some x → P x) → AllByRecursion P xs
  all_found P [] up h = tt
  all_found P (x ∷ xs) up h = (
    h (f x) x (entry_here (f x) x xs (omega arith) ∙ with_own (f x) x refl),
    all_found P xs (rest_rises x xs up) (λ id y is.
        let found = entry_found (λ z. f x < f z) id xs y (rises_from x xs up) is in
        let near : f x < id = (let lt = found.1 in let e = found.0 in omega (arith, lt, e)) in
        h id y (entry_later id x xs near ∙ is)),
  )

  -- no more than a table has that has them all
  pub no_more : {V : Type 0} (xs : List X) (es : List (ℕ × V)) → AreRising f xs → AllByRecursion (λ x. is_some (at es (f x)) ≡ true) xs → length xs ≤ length es
  no_more [] es up all = omega arith
  no_more {V} (x ∷ xs) es up all =
      let fewer = shorter es (f x) all.0 in
      let left = all_both (λ z. f x < f z) (λ z. is_some (at es (f z)) ≡ true) (λ z. is_some (at (without es (f x)) (f z)) ≡ true)
      (λ z lt there. ap is_some (at_without_other es (f x) (f z) (λ e. omega (arith, e, lt))) ∙ there) xs (rises_from x xs up) all.1 in
      let rest = no_more xs (without es (f x)) (rest_rises x xs up) left in
      omega (arith, fewer, rest)

-- ---- tests

-- by cases on a test
pub branch : {T : Type 0} (P : T → Type 0) (a : Bool) (x y : T) → (a ≡ true → P x) → (a ≡ false → P y) → P (cond a x y)
branch P true x y p q = p refl
branch P false x y p q = q refl

pub and_left : (a b : Bool) → (a && b) ≡ true → a ≡ true
and_left true b h = refl
and_left false b h = h

pub and_right : (a b : Bool) → (a && b) ≡ true → b ≡ true
and_right true b h = h
and_right false b h = absurd cc

-- ---- how many entries a table has then

module _ {V : Type 0} where
  most_by : (e : ℕ × V) (es : List (ℕ × V)) (k : ℕ) (v : V) → length (id_put es k v) ≤ suc (length es)
      → (o : Ordering) → nat_cmp k e.0 ≡ o → length (id_put (e ∷ es) k v) ≤ suc (suc (length es))
  unfolding id_put
  most_by e es k v later Less h = rw h (omega arith)
  most_by e es k v later Equal h = rw h (omega arith)
  most_by e es k v later Greater h = rw h (omega (arith, later))

  -- one more at most
  pub put_most : (es : List (ℕ × V)) (k : ℕ) (v : V) → length (id_put es k v) ≤ suc (length es)
  unfolding id_put
  put_most [] k v = omega arith
  put_most (e ∷ es) k v = most_by e es k v (put_most es k v) (nat_cmp k e.0) refl

  -- none more where the id is there
  there_by : (e : ℕ × V) (es : List (ℕ × V)) (k : ℕ) (v w : V) → IsAbove e.0 es
      → (at es k ≡ Some w → length (id_put es k v) ≡ length es) → at (e ∷ es) k ≡ Some w
      → (o : Ordering) → nat_cmp k e.0 ≡ o → length (id_put (e ∷ es) k v) ≡ suc (length es)
  unfolding at id_put
  there_by e es k v w above later there Less h =
      let none = at-above k es (lower k e.0 es (less_is k e.0 h) above) in
      absurd (none-some w (sym none ∙ (rw h at there)))
  there_by e es k v w above later there Equal h = rw h refl
  there_by e es k v w above later there Greater h = rw h (ap suc (later (rw h at there)))

  pub put_there : (es : List (ℕ × V)) (k : ℕ) (v w : V) → Ascends es → at es k ≡ Some w → length (id_put es k v) ≡ length es
  unfolding Ascends at id_put
  put_there [] k v w order there = absurd (none-some w there)
  put_there (e ∷ es) k v w order there = there_by e es k v w order.0 (put_there es k v w order.1) there (nat_cmp k e.0) refl

  less_by : (e : ℕ × V) (es : List (ℕ × V)) (k : ℕ) → length (without es k) ≤ length es
      → (o : Ordering) → nat_cmp k e.0 ≡ o → length (without (e ∷ es) k) ≤ suc (length es)
  unfolding without
  less_by e es k later Less h = rw h (omega (arith, later))
  less_by e es k later Equal h = rw h (omega arith)
  less_by e es k later Greater h = rw h (omega (arith, later))

  pub without_most : (es : List (ℕ × V)) (k : ℕ) → length (without es k) ≤ length es
  unfolding without
  without_most [] k = omega arith
  without_most (e ∷ es) k = less_by e es k (without_most es k) (nat_cmp k e.0) refl
