-- Lists that grow at their end, and what is found in lists and tables.
use Rattle.std.proofs.Common.{◌≡◌, ◌⊎◌, inl, inr, ⊎_elim, ℕ, ◌+◌, ◌<◌, arith, length, Bool, true, false, cond, eqb, zero, suc, List, [], ◌∷◌, ◌++◌, refl, sym, ap, ◌∙◌, subst, Option, Some, None}
use Rattle.std.proofs.lemmas.Bool.{eqb-true, eqb-false, true≢false}
use Rattle.std.proofs.lemmas.Option.{none-some}
use Rattle.std.proofs.lemmas.Grind.{flat_map-append}
use Rattle.std.proofs.lemmas.List.{append-nil, length-append}
use Rattle.std.specs.List.{flat_map}
use Rattle.std.specs.List.{AllByRecursion, find}
use Rattle.std.specs.Prelude.{slice_get, ◌&&◌, ◌||◌, not, map}
use Rattle.std.specs.declared.cmp.Ordering.{Ordering}
use Rattle.std.specs.declared.cmp.Ordering.TheVariants.{Less, Equal, Greater}
use Rattle.std.specs.Ordering.{nat_cmp}
use Rattle.std.specs.BTreeMap.{is_at}
use Rattle.std.proofs.lemmas.Bool.Decides.{nat_tests}
use Rattle.id_table.specs.Ids.{at, put, without, at-none, at-cons, ids_of}
use Rattle.id_table.specs.Order.{IsAbove, Ascends, ascends-put, ascends-without, at_without_same, at_without_other, same_or_not}
use Rattle.end_model.specs.declared.event.Event.{Event}
use Rattle.end_model.specs.declared.tunnel.Call.{Call}
use Rattle.end_model.specs.declared.tunnel.CallPlace.{CallPlace}
use Rattle.session_looks.specs.declared.look.CellChange.{CellChange}
use Rattle.session_looks.specs.declared.look.CellChange.TheVariants as cell
use Rattle.session_looks.specs.declared.look.Look.{Look}
use Rattle.end_model.specs.declared.moves.Move.{Move}
use Rattle.end_model.specs.Events.{changed_at, with_calls}
use Rattle.end_model.specs.End.{End, new_place, placed, looked, with_look, with_looks}
use Rattle.step_laws.specs.Letters.{Among}
use Rattle.step_laws.specs.Moves.{Does, Chain}

pub all_push : {X : Type 0} (P : X → Type 0) (xs : List X) (x : X) → AllByRecursion P xs → P x → AllByRecursion P (xs ++ x ∷ [])
all_push P [] x h p = (p, tt)
all_push P (y ∷ xs) x h p = (h.0, all_push P xs x h.1 p)

pub all_append : {X : Type 0} (P : X → Type 0) (xs ys : List X) → AllByRecursion P xs → AllByRecursion P ys → AllByRecursion P (xs ++ ys)
all_append P [] ys h k = k
all_append P (x ∷ xs) ys h k = (h.0, all_append P xs ys h.1 k)

-- nothing more, where the last one gives nothing
pub none_more : {X Y : Type 0} (f : X → List Y) (xs : List X) (x : X) → f x ≡ [] → flat_map f (xs ++ x ∷ []) ≡ flat_map f xs
none_more f xs x none = flat_map-append f xs (x ∷ []) ∙ ap (λ ys. flat_map f xs ++ (ys ++ [])) none ∙ append-nil (flat_map f xs)

-- one more, where the last one gives one
pub one_more : {X Y : Type 0} (f : X → List Y) (xs : List X) (x : X) (y : Y) → f x ≡ y ∷ [] → length (flat_map f (xs ++ x ∷ [])) ≡ length (flat_map f xs) + 1
one_more f xs x y one =
    let before = flat_map f xs in
    let more : flat_map f (xs ++ x ∷ []) ≡ before ++ y ∷ [] = flat_map-append f xs (x ∷ []) ∙ ap (λ ys. before ++ (ys ++ [])) one in
    rw more (length-append before (y ∷ []))

pub all_map : {X : Type 0} (P Q : X → Type 0) → ((x : X) → P x → Q x) → (xs : List X) → AllByRecursion P xs → AllByRecursion Q xs
all_map P Q f [] h = tt
all_map P Q f (x ∷ xs) h = (f x h.0, all_map P Q f xs h.1)

pub among_left : {X : Type 0} (x : X) (xs ys : List X) → Among x xs → Among x (xs ++ ys)
among_left x [] ys h = absurd h
among_left x (q ∷ xs) ys h = ⊎_elim (λ a. inl a) (λ a. inr (among_left x xs ys a)) h

pub among_right : {X : Type 0} (x : X) (xs ys : List X) → Among x ys → Among x (xs ++ ys)
among_right x [] ys h = h
among_right x (q ∷ xs) ys h = inr (among_right x xs ys h)

-- what is there is there still where more is behind it
pub got_still : {X : Type 0} (xs ys : List X) (n : ℕ) (x : X) → slice_get xs n ≡ Some x → slice_get (xs ++ ys) n ≡ Some x
got_still [] ys n x h = absurd cc
got_still (q ∷ xs) ys zero x h = h
got_still (q ∷ xs) ys (suc n) x h = got_still xs ys n x h

pub with_calls-more : (xs : List (ℕ × Option Call)) (s : ℕ) (c : Option Call) (calls : List (ℕ × Call))
    → with_calls (xs ++ (s, c) ∷ []) calls ≡ changed_at (with_calls xs calls) s c
unfolding with_calls
with_calls-more [] s c calls = refl
with_calls-more (x ∷ xs) s c calls = with_calls-more xs s c (changed_at calls x.0 x.1)

pub with_looks-more : (xs : List CellChange) (x : CellChange) (places : List (ℕ × CallPlace))
    → with_looks (xs ++ x ∷ []) places ≡ with_look x (with_looks xs places)
unfolding with_looks
with_looks-more [] x places = refl
with_looks-more (y ∷ xs) x places = with_looks-more xs x (with_look y places)

pub placed-more : (i : ℕ) (ss : List ℕ) (s : ℕ) (places : List (ℕ × CallPlace)) → placed i (ss ++ s ∷ []) places ≡ put (placed i ss places) s (new_place i)
unfolding placed
placed-more i [] s places = refl
placed-more i (x ∷ ss) s places = placed-more i ss s (put places x (new_place i))

pub chain_more : (moment : ℕ) (ev : Event) (e y x : End) (ms : List Move) (m : Move) → Chain moment ev e ms y → Does y moment ev m x
    → Chain moment ev e (ms ++ m ∷ []) x
chain_more moment ev e y x [] m h d = (x, subst (λ z. Does z moment ev m x) (sym h) d, refl)
chain_more moment ev e y x (n ∷ ms) m h d = (h.0, h.1, chain_more moment ev h.0 y x ms m h.2 d)

pub chain_append : (moment : ℕ) (ev : Event) (e y x : End) (ms ns : List Move) → Chain moment ev e ms y → Chain moment ev y ns x → Chain moment ev e (ms ++ ns) x
chain_append moment ev e y x [] ns h k = subst (λ z. Chain moment ev z ns x) (sym h) k
chain_append moment ev e y x (m ∷ ms) ns h k = (h.0, h.1, chain_append moment ev h.0 y x ms ns h.2 k)

-- by cases on a test
pub branch : {T : Type 0} (P : T → Type 0) (a : Bool) (x y : T) → (a ≡ true → P x) → (a ≡ false → P y) → P (cond a x y)
branch P true x y p q = p refl
branch P false x y p q = q refl

pub and_left : (a b : Bool) → (a && b) ≡ true → a ≡ true
and_left true b h = refl
and_left false b h = h

pub and_right : (a b : Bool) → (a && b) ≡ true → b ≡ true
and_right true b h = h
and_right false b h = absurd (true≢false (sym h))

-- what is found passes the test
pub found_passes : {X : Type 0} (p : X → Bool) (xs : List X) (x : X) → find p xs ≡ Some x → p x ≡ true
found_passes p [] x h = absurd cc
found_passes p (y ∷ xs) x h = by (p y) refl h (found_passes p xs x)
  where
    by : (b : Bool) → p y ≡ b → cond b (Some y) (find p xs) ≡ Some x → (find p xs ≡ Some x → p x ≡ true) → p x ≡ true
    by true is e later = let same : y ≡ x = cc in subst (λ z. p z ≡ true) same is
    by false is e later = later e

-- where none is found, none passes the test
pub none_passes : {X : Type 0} (p : X → Bool) (xs : List X) (x : X) → find p xs ≡ None → Among x xs → p x ≡ true → ⊥
none_passes p [] x h a pass = a
none_passes p (y ∷ xs) x h a pass = by (p y) refl h (none_passes p xs x)
  where
    by : (b : Bool) → p y ≡ b → cond b (Some y) (find p xs) ≡ None → (find p xs ≡ None → Among x xs → p x ≡ true → ⊥) → ⊥
    by true is e later = absurd (none-some y (sym e))
    by false is e later = ⊎_elim (λ (same : y ≡ x). true≢false (sym pass ∙ (ap p (sym same) ∙ is))) (λ l. later e l pass) a

-- ---- the ids of a table

module _ {X : Type 0} where
  pub found_among : (es : List (ℕ × X)) (q : ℕ) (x : X) → at es q ≡ Some x → Among q (ids_of es)
  found_among [] q x h = absurd (none-some x (sym (at-none q) ∙ h))
  found_among (e ∷ es) q x h = by (eqb q e.0) refl (sym (at-cons e es q) ∙ h) (found_among es q x)
    where
      by : (b : Bool) → eqb q e.0 ≡ b → cond (eqb q e.0) (Some e.1) (at es q) ≡ Some x → (at es q ≡ Some x → Among q (ids_of es))
          → (e.0 ≡ q) ⊎ Among q (ids_of es)
      by true is f later = inl (sym (eqb-true q e.0 is))
      by false is f later = inr (later (rw is at f))

  pub none_not_among : (es : List (ℕ × X)) (q : ℕ) → at es q ≡ None → Among q (ids_of es) → ⊥
  none_not_among [] q h a = a
  none_not_among (e ∷ es) q h a = by (eqb q e.0) refl (sym (at-cons e es q) ∙ h) (none_not_among es q)
    where
      by : (b : Bool) → eqb q e.0 ≡ b → cond (eqb q e.0) (Some e.1) (at es q) ≡ None → (at es q ≡ None → Among q (ids_of es) → ⊥) → ⊥
      by true is f later = none-some e.1 (let g = rw is at f in sym g)
      by false is f later = ⊎_elim (λ s. eqb-false q e.0 is (sym s)) (λ l. later (rw is at f) l) a

-- ---- looks

pub ascends_placed : (i : ℕ) (ss : List ℕ) (places : List (ℕ × CallPlace)) → Ascends places → Ascends (placed i ss places)
unfolding placed
ascends_placed i [] places h = h
ascends_placed i (s ∷ ss) places h = ascends_placed i ss (put places s (new_place i)) (ascends-put s (new_place i) places h)

ascends_looked : (l : Look) (s : ℕ) (o : Option CallPlace) (places : List (ℕ × CallPlace)) → Ascends places → Ascends (looked l s o places)
ascends_looked l s None places h = h
ascends_looked l s (Some p) places h = ascends-put s (record p { look = l }) places h

pub ascends_look : (c : CellChange) (places : List (ℕ × CallPlace)) → Ascends places → Ascends (with_look c places)
unfolding with_look
ascends_look (cell.Bind s tunnel peer) places h = ascends_looked _ s (at places s) places h
ascends_look (cell.Establish s) places h = ascends_looked _ s (at places s) places h
ascends_look (cell.Kill s) places h = ascends-without s places h

pub ascends_looks : (cs : List CellChange) (places : List (ℕ × CallPlace)) → Ascends places → Ascends (with_looks cs places)
unfolding with_looks
ascends_looks [] places h = h
ascends_looks (c ∷ cs) places h = ascends_looks cs (with_look c places) (ascends_look c places h)

-- what isn't there isn't there after calls ended
pub killed_none : (ss : List ℕ) (places : List (ℕ × CallPlace)) (q : ℕ) → Ascends places → at places q ≡ None → at (with_looks (map cell.Kill ss) places) q ≡ None
unfolding with_looks with_look
killed_none [] places q h none = none
killed_none (s ∷ ss) places q h none =
    killed_none ss (without places s) q (ascends-without s places h)
    (⊎_elim (λ e. rw e (at_without_same places s h)) (λ o. at_without_other places s q o ∙ none) (same_or_not q s))

-- of calls that ended nothing is there, and the others are as they were
pub killed_same : (ss : List ℕ) (places : List (ℕ × CallPlace)) (q : ℕ) → Ascends places → Among q ss → at (with_looks (map cell.Kill ss) places) q ≡ None
unfolding with_looks with_look
killed_same [] places q h a = absurd a
killed_same (s ∷ ss) places q h a = ⊎_elim
    (λ (e : s ≡ q). killed_none ss (without places s) q (ascends-without s places h) (rw (sym e) (at_without_same places s h)))
    (λ l. killed_same ss (without places s) q (ascends-without s places h) l)
    a

pub killed_other : (ss : List ℕ) (places : List (ℕ × CallPlace)) (q : ℕ) → (Among q ss → ⊥) → at (with_looks (map cell.Kill ss) places) q ≡ at places q
unfolding with_looks with_look
killed_other [] places q none = refl
killed_other (s ∷ ss) places q none =
    killed_other ss (without places s) q (λ a. none (inr a)) ∙ at_without_other places s q (λ e. none (inl (sym e)))

pub not_true : (a : Bool) → not a ≡ true → a ≡ false
not_true true h = absurd (true≢false (sym h))
not_true false h = refl

pub not_false : (a : Bool) → not a ≡ false → a ≡ true
not_false true h = refl
not_false false h = absurd (true≢false h)

pub or_left : (a b : Bool) → (a || b) ≡ false → a ≡ false
or_left true b h = absurd (true≢false h)
or_left false b h = refl

-- ---- a value that is changed and taken out

cmp_same : (k : ℕ) → nat_cmp k k ≡ Equal
cmp_same k = grind (arith, nat_tests)

above_other : (k j : ℕ) → k < j → is_at (nat_cmp k) j ≡ false
above_other k j less = grind (arith, nat_tests)

less_of : (k j : ℕ) → nat_cmp k j ≡ Less → k < j
less_of k j is = grind (arith, nat_tests)

below : (k j m : ℕ) → nat_cmp k j ≡ Less → j < m → k < m
below k j m is less = grind (arith, nat_tests)

module _ {X : Type 0} where
  without_above : (k : ℕ) (es : List (ℕ × X)) → IsAbove k es → without es k ≡ es
  unfolding without
  without_above k [] above = refl
  without_above k (e ∷ es) above = let less = above.0 in rw (above_other k e.0 less, without_above k es above.1) refl

  put_less : (e : ℕ × X) (es : List (ℕ × X)) (k : ℕ) (v : X) → nat_cmp k e.0 ≡ Less → put (e ∷ es) k v ≡ (k, v) ∷ e ∷ es
  unfolding put
  put_less e es k v h = rw h refl

  put_equal : (e : ℕ × X) (es : List (ℕ × X)) (k : ℕ) (v : X) → nat_cmp k e.0 ≡ Equal → put (e ∷ es) k v ≡ (e.0, v) ∷ es
  unfolding put
  put_equal e es k v h = rw h refl

  put_greater : (e : ℕ × X) (es : List (ℕ × X)) (k : ℕ) (v : X) → nat_cmp k e.0 ≡ Greater → put (e ∷ es) k v ≡ e ∷ put es k v
  unfolding put
  put_greater e es k v h = rw h refl

  without_equal : (e : ℕ × X) (es : List (ℕ × X)) (k : ℕ) → nat_cmp k e.0 ≡ Equal → without (e ∷ es) k ≡ es
  unfolding without
  without_equal e es k h = rw h refl

  without_greater : (e : ℕ × X) (es : List (ℕ × X)) (k : ℕ) → nat_cmp k e.0 ≡ Greater → without (e ∷ es) k ≡ e ∷ without es k
  unfolding without
  without_greater e es k h = rw h refl

  nothing_put : (k : ℕ) (v : X) → without (put [] k v) k ≡ without [] k
  unfolding put without
  nothing_put k v = let same = cmp_same k in rw same refl

  lower_above : (k j : ℕ) (es : List (ℕ × X)) → nat_cmp k j ≡ Less → IsAbove j es → IsAbove k es
  lower_above k j [] less above = tt
  lower_above k j (e ∷ es) less above = (below k j e.0 less above.0, lower_above k j es less above.1)

  without_put_by : (e : ℕ × X) (es : List (ℕ × X)) (k : ℕ) (v : X) → IsAbove e.0 es → without (put es k v) k ≡ without es k
      → (o : Ordering) → nat_cmp k e.0 ≡ o → without (put (e ∷ es) k v) k ≡ without (e ∷ es) k
  without_put_by e es k v above ih Less h =
      rw (put_less e es k v h, without_equal (k, v) (e ∷ es) k (cmp_same k)) (sym (without_above k (e ∷ es) (less_of k e.0 h, lower_above k e.0 es h above)))
  without_put_by e es k v above ih Equal h = rw (put_equal e es k v h, without_equal (e.0, v) es k h, without_equal e es k h) refl
  without_put_by e es k v above ih Greater h = rw (put_greater e es k v h, without_greater e (put es k v) k h, without_greater e es k h, ih) refl

  pub without_put : (es : List (ℕ × X)) (k : ℕ) (v : X) → Ascends es → without (put es k v) k ≡ without es k
  unfolding Ascends
  without_put [] k v sorted = nothing_put k v
  without_put (e ∷ es) k v sorted = without_put_by e es k v sorted.0 (without_put es k v sorted.1) (nat_cmp k e.0) refl
