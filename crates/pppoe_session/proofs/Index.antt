-- The pairs of MAC and session stay in step with the entries.
use Rattle.std.specs.Prelude.{◌≡◌, ◌<◌, ◌≤◌, ◌∷◌, [], nat_lt, ◌+◌, ℕ, Bool, true, false, cond, ◌&&◌, List, Option, Some, None, is_some}
use Rattle.std.specs.declared.cmp.Ordering.{Ordering}
use Rattle.std.specs.declared.cmp.Ordering.TheVariants.{Less, Equal, Greater}
use Rattle.std.specs.Ordering.{nat_cmp, ordering_then, is_eq, is_gt, ordering_reverse}
use Rattle.std.proofs.lemmas.Cmp.{nat_list_cmp_total}
use Rattle.std.proofs.lemmas.Map.Lookups.{exact_bytes}
use Rattle.std.specs.Bool.{nat_eq}
use Rattle.std.specs.List.{list_any}
use Rattle.std.specs.Map.{lookup}
use Rattle.std.specs.BTreeMap.{is_at}
use Rattle.std.specs.Cmp.Lexicographic.{pointwise, slice_cmp}
use Rattle.std.proofs.Common.{refl, ap, sym, ◌∙◌, arith, eqb}
use Rattle.std.proofs.lemmas.Bool.Decides.{nat_tests}
use Rattle.std.proofs.lemmas.Bool.{eqb-true}
use Rattle.std.proofs.lemmas.Map.Text.{is_eq-slice_cmp}
use Rattle.pppoe_session.specs.declared.Subscriber.{Subscriber}
use Rattle.pppoe_session.specs.Subscribers.{is_from, is_repeat, is_repeat_of, subscriber_of, pair_cmp, IsIndexOf, IsNextPair, HasNoPair, NoneBetween}

equal_then : (o p : Ordering) → is_eq (ordering_then o p) ≡ is_eq o && is_eq p
equal_then Less p = refl
equal_then Equal p = refl
equal_then Greater p = refl

pub same_pair : (mac other : List ℕ) (s t : ℕ) → is_at (pair_cmp (mac, s)) (other, t) ≡ pointwise nat_eq mac other && is_at (nat_cmp s) t
same_pair mac other s t = equal_then (slice_cmp nat_cmp mac other) (nat_cmp s t) ∙ ap (λ b. b && is_at (nat_cmp s) t) (is_eq-slice_cmp mac other)

is_at-same : (i j : ℕ) → is_at (nat_cmp i) j ≡ eqb i j
is_at-same i j = grind (arith, nat_tests)

pub at_one : (s t : ℕ) → is_at (nat_cmp s) t ≡ true → s ≡ t
at_one s t h = eqb-true s t (sym (is_at-same s t) ∙ h)

pub none_at : {X : Type 0} (o : Option X) → is_some o ≡ false → o ≡ None
none_at None h = refl
none_at (Some x) h = absurd cc

kept : (a : Bool) → cond (a && true) true false ≡ a
kept true = refl
kept false = refl

apart : (a x y : Bool) → cond (a && false) x y ≡ y
apart true x y = refl
apart false x y = refl

gone : (a : Bool) → cond (a && true) false a ≡ false
gone true = refl
gone false = refl

back : (a : Bool) → cond (a && true) false (cond (a && true) true false) ≡ false
back true = refl
back false = refl

added_by : (m : List ℕ) (who : Subscriber) (old : Option Subscriber) (b : Bool) → (b ≡ true → old ≡ None) → cond (pointwise nat_eq who.mac m && b) true (is_from m old) ≡ is_from m (cond b (Some who) old)
added_by m who old true h = rw (h refl) (kept (pointwise nat_eq who.mac m))
added_by m who old false h = apart (pointwise nat_eq who.mac m) true (is_from m old)

dropped_by : (m : List ℕ) (who : Subscriber) (old : Option Subscriber) (b : Bool) → (b ≡ true → old ≡ Some who) → cond (pointwise nat_eq who.mac m && b) false (is_from m old) ≡ is_from m (cond b None old)
dropped_by m who old true h = rw (h refl) (gone (pointwise nat_eq who.mac m))
dropped_by m who old false h = apart (pointwise nat_eq who.mac m) false (is_from m old)

undone_by : (m mac : List ℕ) (old : Option Subscriber) (b : Bool) → (b ≡ true → old ≡ None) → cond (pointwise nat_eq mac m && b) false (cond (pointwise nat_eq mac m && b) true (is_from m old)) ≡ is_from m old
undone_by m mac old true h = rw (h refl) (back (pointwise nat_eq mac m))
undone_by m mac old false h = apart (pointwise nat_eq mac m) false _ ∙ apart (pointwise nat_eq mac m) true (is_from m old)

abbrev pub Has : List (List ℕ × ℕ) → List ℕ × ℕ → Bool
Has ps q = list_any (is_at (pair_cmp q)) ps

abbrev pub subscriber_at : List (ℕ × Subscriber) → ℕ → Option Subscriber
subscriber_at es t = lookup (is_at (nat_cmp t)) es

module _ (es : List (ℕ × Subscriber)) (ps : List (List ℕ × ℕ)) (index : IsIndexOf es ps) (session : ℕ) where
  at_old : (o : Option Subscriber) → subscriber_at es session ≡ o → (t : ℕ) → is_at (nat_cmp session) t ≡ true → subscriber_at es t ≡ o
  at_old o h t same = ap (subscriber_at es) (sym (at_one session t same)) ∙ h

  pub index_added : (who : Subscriber) (fs : List (ℕ × Subscriber)) (qs : List (List ℕ × ℕ)) → subscriber_at es session ≡ None
      → ((q : List ℕ × ℕ) → Has qs q ≡ cond (is_at (pair_cmp (who.mac, session)) q) true (Has ps q))
      → ((t : ℕ) → subscriber_at fs t ≡ cond (is_at (nat_cmp session) t) (Some who) (subscriber_at es t)) → IsIndexOf fs qs
  index_added who fs qs free pairs entries m t = pairs (m, t) ∙ ap (λ b. cond b true (Has ps (m, t))) (same_pair who.mac m session t) ∙ ap (cond (pointwise nat_eq who.mac m && is_at (nat_cmp session) t) true) (index m t) ∙ added_by m who (subscriber_at es t) (is_at (nat_cmp session) t) (at_old None free t) ∙ ap (is_from m) (sym (entries t))

  pub index_dropped : (who : Subscriber) (fs : List (ℕ × Subscriber)) (qs : List (List ℕ × ℕ)) → subscriber_at es session ≡ Some who
      → ((q : List ℕ × ℕ) → Has qs q ≡ cond (is_at (pair_cmp (who.mac, session)) q) false (Has ps q))
      → ((t : ℕ) → subscriber_at fs t ≡ cond (is_at (nat_cmp session) t) None (subscriber_at es t)) → IsIndexOf fs qs
  index_dropped who fs qs held pairs entries m t = pairs (m, t) ∙ ap (λ b. cond b false (Has ps (m, t))) (same_pair who.mac m session t) ∙ ap (cond (pointwise nat_eq who.mac m && is_at (nat_cmp session) t) false) (index m t) ∙ dropped_by m who (subscriber_at es t) (is_at (nat_cmp session) t) (at_old (Some who) held t) ∙ ap (is_from m) (sym (entries t))

  pub index_undone : (mac : List ℕ) (fs : List (ℕ × Subscriber)) (qs rs : List (List ℕ × ℕ)) → subscriber_at es session ≡ None
      → ((q : List ℕ × ℕ) → Has qs q ≡ cond (is_at (pair_cmp (mac, session)) q) true (Has ps q))
      → ((q : List ℕ × ℕ) → Has rs q ≡ cond (is_at (pair_cmp (mac, session)) q) false (Has qs q))
      → fs ≡ es → IsIndexOf fs rs
  index_undone mac fs qs rs free pairs out entries m t = out (m, t) ∙ ap (cond (is_at (pair_cmp (mac, session)) (m, t)) false) (pairs (m, t)) ∙ ap (λ b. cond b false (cond b true (Has ps (m, t)))) (same_pair mac m session t) ∙ ap (λ x. cond (pointwise nat_eq mac m && is_at (nat_cmp session) t) false (cond (pointwise nat_eq mac m && is_at (nat_cmp session) t) true x)) (index m t) ∙ undone_by m mac (subscriber_at es t) (is_at (nat_cmp session) t) (at_old None free t) ∙ ap (λ xs. is_from m (subscriber_at xs t)) (sym entries)

cmp_same : (k : ℕ) → nat_cmp k k ≡ Equal
cmp_same k = grind (arith, nat_tests)

self_equal : (xs : List ℕ) → slice_cmp nat_cmp xs xs ≡ Equal
self_equal [] = refl
self_equal (x ∷ xs) = rw (cmp_same x) (self_equal xs)

after : (s t : ℕ) → s ≤ t → is_gt (nat_cmp s t) ≡ false
after s t h = grind (arith, nat_tests)

not_before : (s t : ℕ) → is_gt (nat_cmp s t) ≡ false → s ≤ t
not_before s t h = grind (arith, nat_tests)

pair_after : (m : List ℕ) (s t : ℕ) → s ≤ t → is_gt (pair_cmp (m, s) (m, t)) ≡ false
pair_after m s t h = rw (self_equal m) (after s t h)

pair_not_before : (x y : List ℕ) (s t : ℕ) → x ≡ y → is_gt (pair_cmp (x, s) (y, t)) ≡ false → s ≤ t
pair_not_before x y s t e h = not_before s t (sym (ap (λ o. is_gt (ordering_then o (nat_cmp s t))) (ap (slice_cmp nat_cmp x) (sym e) ∙ self_equal x)) ∙ h)

between_by : (x y : List ℕ) (s t u : ℕ) (o : Ordering) → slice_cmp nat_cmp x y ≡ o → is_gt (ordering_then o (nat_cmp s t)) ≡ false → is_gt (ordering_then (ordering_reverse o) (nat_cmp t u)) ≡ false → x ≡ y
between_by x y s t u Less h p q = absurd cc
between_by x y s t u Equal h p q = exact_bytes x y h
between_by x y s t u Greater h p q = absurd cc

between : (x y : List ℕ) (s t u : ℕ) → is_gt (pair_cmp (x, s) (y, t)) ≡ false → is_gt (pair_cmp (y, t) (x, u)) ≡ false → x ≡ y
between x y s t u p q = between_by x y s t u (slice_cmp nat_cmp x y) refl p (sym (ap (λ o. is_gt (ordering_then o (nat_cmp t u))) (nat_list_cmp_total.antisymm y x)) ∙ q)

equal_of : (o : Ordering) → is_eq o ≡ true → o ≡ Equal
equal_of Less h = absurd cc
equal_of Equal h = refl
equal_of Greater h = absurd cc

pub same_bytes : (x y : List ℕ) → pointwise nat_eq x y ≡ true → x ≡ y
same_bytes x y h = exact_bytes x y (equal_of _ (is_eq-slice_cmp x y ∙ h))

pub are_same : (x y : List ℕ) → x ≡ y → pointwise nat_eq x y ≡ true
are_same x y e = sym (is_eq-slice_cmp x y) ∙ ap is_eq (ap (slice_cmp nat_cmp x) (sym e) ∙ self_equal x)

false_of : (b : Bool) → (b ≡ true → ⊥) → b ≡ false
false_of true h = absurd (h refl)
false_of false h = refl

module _ (es : List (ℕ × Subscriber)) (mac : List ℕ) (first : ℕ) where
  from : ℕ → Bool
  from t = is_from mac (subscriber_of es t)

  pub next_none : HasNoPair es (mac, first) → (high : ℕ) → NoneBetween first high (λ t. is_from mac (subscriber_of es t))
  next_none none high t low below = none (mac, t) (pair_after mac first t low)

  pub next_other : (pair : List ℕ × ℕ) → IsNextPair es (mac, first) pair → pointwise nat_eq pair.0 mac ≡ false → (high : ℕ) → NoneBetween first high (λ t. is_from mac (subscriber_of es t))
  next_other pair next other high t low below = false_of _ (λ held. let e = are_same pair.0 mac (sym (between mac pair.0 first pair.1 t next.0 (next.1 (mac, t) (pair_after mac first t low) held))) in absurd cc)

  pub next_same : (pair : List ℕ × ℕ) → IsNextPair es (mac, first) pair → pointwise nat_eq pair.0 mac ≡ true → first ≤ pair.1 × NoneBetween first pair.1 (λ t. is_from mac (subscriber_of es t))
  next_same pair next same = (pair_not_before mac pair.0 first pair.1 (sym (same_bytes pair.0 mac same)) next.0, λ t low below. false_of _ (λ held. let h = pair_not_before pair.0 mac pair.1 t (same_bytes pair.0 mac same) (next.1 (mac, t) (pair_after mac first t low) held) in grind (arith)))

pub not_from : (mac : List ℕ) (uniq : Option (List ℕ)) (o : Option Subscriber) → is_from mac o ≡ false → is_repeat_of mac uniq o ≡ false
unfolding is_repeat
not_from mac uniq None h = refl
not_from mac uniq (Some who) h = rw h refl

below_by : (P F : ℕ → Bool) (first high : ℕ) → NoneBetween 0 first P → NoneBetween first high F → ((t : ℕ) → F t ≡ false → P t ≡ false) → (t : ℕ) → t < high → (b : Bool) → nat_lt t first ≡ b → P t ≡ false
below_by P F first high before rest weaker t h true e = before t (grind (arith)) (grind (arith, nat_tests))
below_by P F first high before rest weaker t h false e = weaker t (rest t (grind (arith, nat_tests)) h)

pub none_below : (P F : ℕ → Bool) (first high : ℕ) → NoneBetween 0 first P → NoneBetween first high F → ((t : ℕ) → F t ≡ false → P t ≡ false) → NoneBetween 0 high P
none_below P F first high before rest weaker t low h = below_by P F first high before rest weaker t h (nat_lt t first) refl

t_is : (last t : ℕ) → nat_lt t last ≡ false → t < last + 1 → t ≡ last
t_is last t e h = grind (arith, nat_tests)

through_by : (P : ℕ → Bool) (last t : ℕ) → (t < last → P t ≡ false) → P last ≡ false → (b : Bool) → nat_lt t last ≡ b → t < last + 1 → P t ≡ false
through_by P last t below here true e h = below (grind (arith, nat_tests))
through_by P last t below here false e h = ap P (t_is last t e h) ∙ here

pub none_through : (P F : ℕ → Bool) (first last high : ℕ) → NoneBetween 0 first P → NoneBetween first last F → ((t : ℕ) → F t ≡ false → P t ≡ false) → P last ≡ false → high ≤ last + 1 → NoneBetween 0 high P
none_through P F first last high before rest weaker here h t low below = through_by P last t (none_below P F first last before rest weaker t low) here (nat_lt t last) refl (grind (arith))
