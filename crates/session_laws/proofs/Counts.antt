-- Two tunnels that hold the same sessions hold as many.
use Rattle.std.proofs.Common.{◌≡◌, ◌⊎◌, inl, inr, ⊎_elim, ℕ, suc, ◌+◌, ◌≤◌, Bool, true, false, cond, eqb, List, [], ◌∷◌, length, refl, sym, ap, ◌∙◌, subst, Option, Some, None, arith}
use Rattle.std.proofs.lemmas.Bool.{eqb-true, eqb-false, true≢false}
use Rattle.std.proofs.lemmas.Option.{none-some}
use Rattle.std.specs.Prelude.{count_by}
use Rattle.std.specs.List.{fold}
use Rattle.id_table.specs.Ids.{at, at-none, at-cons, ids_of}
use Rattle.id_table.specs.Order.{IsAbove, Ascends}
use Rattle.end_model.specs.declared.tunnel.Call.{Call}
use Rattle.end_model.specs.Tunnels.{Tunnel}
use Rattle.world_model.specs.Run.{is_session, session_count}
use Rattle.step_laws.specs.Letters.{Among}
use Rattle.session_laws.specs.Sessions.{HoldsSession}

-- ---- numbers of a list that have partners in another one

-- none stands twice
abbrev IsDistinct : List ℕ → Type 0
IsDistinct [] = Unit {0}
IsDistinct (x ∷ xs) = (Among x xs → ⊥) × IsDistinct xs

abbrev without_one : ℕ → List ℕ → List ℕ
without_one y [] = []
without_one y (x ∷ xs) = cond (eqb x y) xs (x ∷ without_one y xs)

one_less : (y : ℕ) (xs : List ℕ) → Among y xs → suc (length (without_one y xs)) ≡ length xs
one_less y [] a = absurd a
one_less y (x ∷ xs) a = by (eqb x y) refl (one_less y xs)
  where
    by : (b : Bool) → eqb x y ≡ b → (Among y xs → suc (length (without_one y xs)) ≡ length xs)
        → suc (length (cond b xs (x ∷ without_one y xs))) ≡ suc (length xs)
    by true is later = refl
    by false is later = ap (λ n. suc n) (later (⊎_elim (λ (e : x ≡ y). absurd (eqb-false x y is e)) (λ (l : Among y xs). l) a))

still_among : (z y : ℕ) (xs : List ℕ) → (z ≡ y → ⊥) → Among z xs → Among z (without_one y xs)
still_among z y [] other a = a
still_among z y (x ∷ xs) other a = by (eqb x y) refl (still_among z y xs other)
  where
    by : (b : Bool) → eqb x y ≡ b → (Among z xs → Among z (without_one y xs)) → Among z (cond b xs (x ∷ without_one y xs))
    by true is later = ⊎_elim (λ (e : x ≡ z). absurd (other (sym e ∙ eqb-true x y is))) (λ (l : Among z xs). l) a
    by false is later = ⊎_elim (λ (e : x ≡ z). inl e) (λ (l : Among z xs). inr (later l)) a

-- where each of distinct numbers has a partner of its own, there are as many partners at least
as_many : (f : ℕ → ℕ) (xs ys : List ℕ) → IsDistinct xs → ((x : ℕ) → Among x xs → Among (f x) ys)
    → ((x z : ℕ) → Among x xs → Among z xs → f x ≡ f z → x ≡ z) → length xs ≤ length ys
as_many f [] ys distinct maps apart = omega arith
as_many f (x ∷ xs) ys distinct maps apart =
    let here : Among (f x) ys = maps x (inl refl) in
    let rest = as_many f xs (without_one (f x) ys) distinct.1
    (λ z a. still_among (f z) (f x) ys (λ e. distinct.0 (subst (λ q. Among q xs) (apart z x (inr a) (inl refl) e) a)) (maps z (inr a)))
    (λ z q a b e. apart z q (inr a) (inr b) e) in
    let less = one_less (f x) ys here in
    omega arith

-- ---- the numbers that pass a test

abbrev passing : (ℕ → Bool) → List ℕ → List ℕ
passing p [] = []
passing p (x ∷ xs) = cond (p x) (x ∷ passing p xs) (passing p xs)

count_from : (p : ℕ → Bool) (n : ℕ) (xs : List ℕ) → fold (λ a x. a + cond (p x) 1 0) n xs ≡ n + length (passing p xs)
count_from p n [] = omega arith
count_from p n (x ∷ xs) = count_from p (n + cond (p x) 1 0) xs ∙ by (p x)
  where
    by : (b : Bool) → (n + cond b 1 0) + length (passing p xs) ≡ n + length (cond b (x ∷ passing p xs) (passing p xs))
    by true = omega arith
    by false = omega arith

count_is : (p : ℕ → Bool) (xs : List ℕ) → count_by p xs ≡ length (passing p xs)
count_is p xs = let e = count_from p 0 xs in e ∙ omega arith

passes : (p : ℕ → Bool) (xs : List ℕ) (x : ℕ) → Among x (passing p xs) → (p x ≡ true) × Among x xs
passes p [] x a = absurd a
passes p (y ∷ ys) x a = by (p y) refl a (passes p ys x)
  where
    by : (b : Bool) → p y ≡ b → Among x (cond b (y ∷ passing p ys) (passing p ys)) → (Among x (passing p ys) → (p x ≡ true) × Among x ys)
        → (p x ≡ true) × Among x (y ∷ ys)
    by true is a later = ⊎_elim (λ (e : y ≡ x). (subst (λ q. p q ≡ true) e is, inl e)) (λ (l : Among x (passing p ys)). let k = later l in (k.0, inr k.1)) a
    by false is a later = let k = later a in (k.0, inr k.1)

passed : (p : ℕ → Bool) (xs : List ℕ) (x : ℕ) → p x ≡ true → Among x xs → Among x (passing p xs)
passed p [] x is a = a
passed p (y ∷ ys) x is a = by (p y) refl (passed p ys x is)
  where
    by : (b : Bool) → p y ≡ b → (Among x ys → Among x (passing p ys)) → Among x (cond b (y ∷ passing p ys) (passing p ys))
    by true e later = ⊎_elim (λ (s : y ≡ x). inl s) (λ (l : Among x ys). inr (later l)) a
    by false e later = ⊎_elim (λ (s : y ≡ x). absurd (true≢false (sym is ∙ (ap p (sym s) ∙ e)))) (λ (l : Among x ys). later l) a

distinct_passing : (p : ℕ → Bool) (xs : List ℕ) → IsDistinct xs → IsDistinct (passing p xs)
distinct_passing p [] d = tt
distinct_passing p (x ∷ xs) d = by (p x) (distinct_passing p xs d.1)
  where
    by : (b : Bool) → IsDistinct (passing p xs) → IsDistinct (cond b (x ∷ passing p xs) (passing p xs))
    by true later = (λ a. d.0 (passes p xs x a).1, later)
    by false later = later

-- ---- the ids of a table

module _ {X : Type 0} where
  not_above : (k : ℕ) (es : List (ℕ × X)) → IsAbove k es → Among k (ids_of es) → ⊥
  not_above k [] h a = a
  not_above k (e ∷ es) h a = ⊎_elim (λ (s : e.0 ≡ k). let lt = h.0 in let no : ⊥ = omega arith in no) (λ (l : Among k (ids_of es)). not_above k es h.1 l) a

  distinct_ids : (es : List (ℕ × X)) → Ascends es → IsDistinct (ids_of es)
  unfolding Ascends
  distinct_ids [] h = tt
  distinct_ids (e ∷ es) h = (λ a. not_above e.0 es h.0 a, distinct_ids es h.1)

  id_among : (es : List (ℕ × X)) (q : ℕ) (x : X) → at es q ≡ Some x → Among q (ids_of es)
  id_among [] q x h = absurd (none-some x (sym (at-none q) ∙ h))
  id_among (e ∷ es) q x h = by (eqb q e.0) refl (sym (at-cons e es q) ∙ h) (id_among es q x)
    where
      by : (b : Bool) → eqb q e.0 ≡ b → cond (eqb q e.0) (Some e.1) (at es q) ≡ Some x → (at es q ≡ Some x → Among q (ids_of es))
          → (e.0 ≡ q) ⊎ Among q (ids_of es)
      by true is f later = inl (sym (eqb-true q e.0 is))
      by false is f later = inr (later (rw is at f))

-- ---- sessions

abbrev remote_in : Option Call → ℕ
remote_in None = 0
remote_in (Some c) = c.remote

abbrev is_held : Tunnel → ℕ → Bool
is_held t s = is_session (at t.calls s)

held_by : (t : Tunnel) (s : ℕ) → is_held t s ≡ true → HoldsSession t s (remote_in (at t.calls s))
held_by t s h = by (at t.calls s) refl h
  where
    by : (o : Option Call) → at t.calls s ≡ o → is_session o ≡ true → HoldsSession t s (remote_in o)
    by None is e = absurd (true≢false (sym e))
    by (Some c) is e = record { call = c; live = is; up = e; known = refl }

is_held_by : (t : Tunnel) (s r : ℕ) → HoldsSession t s r → (is_held t s ≡ true) × Among s (ids_of t.calls)
is_held_by t s r h = (rw h.live h.up, id_among t.calls s h.call h.live)

one_session : (t : Tunnel) (s q r : ℕ) → HoldsSession t s q → HoldsSession t s r → q ≡ r
one_session t s q r a b =
    let same : a.call ≡ b.call = some_same a.call b.call (sym a.live ∙ b.live) in
    sym a.known ∙ (ap (λ (c : Call). c.remote) same ∙ b.known)
  where
    some_same : (x y : Call) → Some x ≡ Some y → x ≡ y
    some_same x y h = cc

-- what the one holds the other holds too
held_fewer : (t u : Tunnel) → Ascends t.calls → ((s r : ℕ) → HoldsSession t s r → HoldsSession u r s) → session_count t.calls ≤ session_count u.calls
unfolding session_count
held_fewer t u sorted there =
    let xs = passing (is_held t) (ids_of t.calls) in
    let ys = passing (is_held u) (ids_of u.calls) in
    let f = λ (s : ℕ). remote_in (at t.calls s) in
    let holds : (s : ℕ) → Among s xs → HoldsSession t s (f s) = λ s a. held_by t s (passes (is_held t) (ids_of t.calls) s a).0 in
    let le = as_many f xs ys (distinct_passing (is_held t) (ids_of t.calls) (distinct_ids t.calls sorted))
    (λ s a. (let k = is_held_by u (f s) s (there s (f s) (holds s a)) in passed (is_held u) (ids_of u.calls) (f s) k.0 k.1))
    (λ s q a b e. one_session u (f q) s q (subst (λ r. HoldsSession u r s) e (there s (f s) (holds s a))) (there q (f q) (holds q b))) in
    let one = count_is (is_held t) (ids_of t.calls) in
    let other = count_is (is_held u) (ids_of u.calls) in
    omega arith

pub same_count : (t u : Tunnel) → Ascends t.calls → Ascends u.calls → ((s r : ℕ) → HoldsSession t s r → HoldsSession u r s)
    → ((s r : ℕ) → HoldsSession u r s → HoldsSession t s r) → session_count t.calls ≡ session_count u.calls
same_count t u sorted sorted_too there here =
    let a = held_fewer t u sorted there in
    let b = held_fewer u t sorted_too (λ r s h. here s r h) in
    omega arith
