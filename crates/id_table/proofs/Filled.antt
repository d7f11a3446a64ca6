-- What a map that has ids without a value shows of those with one.
use Rattle.std.specs.Prelude.{◌≡◌, ℕ, Bool, true, false, cond, List, [], ◌∷◌, Option, Some, None, is_some, IsSome, IsTrue, ◌||◌, ◌≢◌, eqb, map, length, ◌+◌, ◌-◌, ◌^◌, ◌<◌, ◌≤◌, not}
use Rattle.std.specs.Int.{from_bool}
use Rattle.std.specs.Option.{option_flatten, option_map}
use Rattle.std.specs.declared.cmp.Ordering.{Ordering}
use Rattle.std.specs.declared.cmp.Ordering.TheVariants.{Less, Equal, Greater}
use Rattle.std.specs.Ordering.{nat_cmp, is_eq}
use Rattle.std.specs.Cmp.{nat_cmp_total}
use Rattle.std.specs.List.{AllByRecursion, list_any, cons_option, filter}
use Rattle.std.specs.List.Sorted.{IsStrictlySortedBy}
use Rattle.std.specs.Map.{lookup, remove_entry, set_value, keys_of}
use Rattle.std.specs.BTreeMap.{is_at, insert_entry}
use Rattle.std.specs.FinMap.{nat_cmp-IsAntisymmetric}
use Rattle.std.proofs.Common.{refl, ap, sym, subst, ◌∙◌, arith, true≢false, Fits, w64}
use Rattle.std.proofs.lemmas.Bool.Decides.{nat_tests}
use Rattle.std.proofs.lemmas.Option.{none-some}
use Rattle.std.proofs.lemmas.Map.Steps.{set_value_same}
use Rattle.id_table.specs.Ids.{at, put, without, is_at-same, ids_of}
use Rattle.id_table.specs.Tables.{Kept, HasRoom, KeepsRoom, KeepsOtherRoom, kept_with, filled, shown}

-- each id is above k
abbrev IsAbove : {Y : Type 0} → ℕ → List (ℕ × Y) → Type 0
IsAbove k es = AllByRecursion (λ q. nat_cmp k q ≡ Less) (keys_of es)

-- the ids ascend
abbrev Ascends : {Y : Type 0} → List (ℕ × Y) → Type 0
Ascends es = IsStrictlySortedBy nat_cmp (keys_of es)

or_true : (b : Bool) → (b || true) ≡ true
or_true true = refl
or_true false = refl

at_most_one : (b : Bool) → from_bool b ≤ 1
at_most_one true = omega arith
at_most_one false = omega arith

added : (b t : Bool) → t ≡ not b → from_bool b ≡ cond t 0 1
added true t h = rw h refl
added false t h = rw h refl

removed : (b t : Bool) → t ≡ b → from_bool b ≡ cond t 1 0
removed true t h = rw h refl
removed false t h = rw h refl

eqb-apart : (k i : ℕ) → i ≢ k → eqb k i ≡ false
eqb-apart k i apart = grind (arith, nat_tests)

module _ {Y : Type 0} where
  -- what is above q is above each k below it
  lower : (k q : ℕ) (es : List (ℕ × Y)) → nat_cmp k q ≡ Less → IsAbove q es → IsAbove k es
  lower k q [] less h = tt
  lower k q (e ∷ es) less h = (nat_cmp_total.trans k q e.0 less h.0, lower k q es less h.1)

  same : (k q : ℕ) (es : List (ℕ × Y)) → nat_cmp k q ≡ Equal → IsAbove q es → IsAbove k es
  same k q es equal h = subst (λ t. IsAbove t es) (sym (nat_cmp-IsAntisymmetric k q equal)) h

module _ {Y : Type 0} where
  found-above : (k : ℕ) (fs : List (ℕ × Y)) → IsAbove k fs → lookup (is_at (nat_cmp k)) fs ≡ None
  found-above k [] h = refl
  found-above k (f ∷ fs) h = rw h.0 (found-above k fs h.1)

  set_there_by : (k : ℕ) (v w : Y) (f : ℕ × Y) (fs : List (ℕ × Y)) → IsAbove f.0 fs → (lookup (is_at (nat_cmp k)) fs ≡ Some v → set_value (is_at (nat_cmp k)) fs w ≡ insert_entry nat_cmp fs k w) → lookup (is_at (nat_cmp k)) (f ∷ fs) ≡ Some v → (r : Ordering) → nat_cmp k f.0 ≡ r → set_value (is_at (nat_cmp k)) (f ∷ fs) w ≡ insert_entry nat_cmp (f ∷ fs) k w
  set_there_by k v w f fs above ih found Less h = absurd (none-some v (sym (found-above k fs (lower k f.0 fs h above)) ∙ (let g = rw h at found in g)))
  set_there_by k v w f fs above ih found Equal h = rw h refl
  set_there_by k v w f fs above ih found Greater h = let g = rw h at found in rw h (ap (λ t. f ∷ t) (ih g))

  -- a value that is changed in its place is put there
  set_there : (k : ℕ) (v w : Y) (fs : List (ℕ × Y)) → Ascends fs → lookup (is_at (nat_cmp k)) fs ≡ Some v → set_value (is_at (nat_cmp k)) fs w ≡ insert_entry nat_cmp fs k w
  unfolding IsStrictlySortedBy
  set_there k v w [] s found = absurd (none-some v found)
  set_there k v w (f ∷ fs) s found = set_there_by k v w f fs s.0 (set_there k v w fs s.1) found (nat_cmp k f.0) refl

module _ {X : Type 0} where
  at-above : (k : ℕ) (fs : List (ℕ × X)) → IsAbove k fs → at fs k ≡ None
  unfolding at
  at-above k [] h = refl
  at-above k (f ∷ fs) h = rw h.0 (at-above k fs h.1)

  put-above : (k : ℕ) (v : X) (fs : List (ℕ × X)) → IsAbove k fs → put fs k v ≡ (k, v) ∷ fs
  unfolding put
  put-above k v [] h = refl
  put-above k v (f ∷ fs) h = rw h.0 refl

  without-above : (k : ℕ) (fs : List (ℕ × X)) → IsAbove k fs → without fs k ≡ fs
  unfolding without
  without-above k [] h = refl
  without-above k (f ∷ fs) h = rw h.0 (ap (λ t. f ∷ t) (without-above k fs h.1))

  filled-above_by : (k q : ℕ) (o : Option X) (es : List (ℕ × Option X)) → nat_cmp k q ≡ Less → IsAbove k (filled es) → IsAbove k (filled ((q, o) ∷ es))
  filled-above_by k q None es less h = h
  filled-above_by k q (Some v) es less h = (less, h)

  filled-above : (k : ℕ) (es : List (ℕ × Option X)) → IsAbove k es → IsAbove k (filled es)
  filled-above k [] h = tt
  filled-above k (e ∷ es) h = filled-above_by k e.0 e.1 es h.0 (filled-above k es h.1)

  -- ---- how many there are
  length-put_by : (k : ℕ) (v : X) (f : ℕ × X) (fs : List (ℕ × X)) → IsAbove f.0 fs → length (put fs k v) ≡ length fs + cond (is_some (at fs k)) 0 1 → (r : Ordering) → nat_cmp k f.0 ≡ r → length (put (f ∷ fs) k v) ≡ length (f ∷ fs) + cond (is_some (at (f ∷ fs) k)) 0 1
  unfolding at put
  length-put_by k v f fs above ih Less h = rw (h, at-above k fs (lower k f.0 fs h above)) (omega arith)
  length-put_by k v f fs above ih Equal h = rw h (omega arith)
  length-put_by k v f fs above ih Greater h = rw h (omega (arith, ih))

  length-put : (k : ℕ) (v : X) (fs : List (ℕ × X)) → Ascends fs → length (put fs k v) ≡ length fs + cond (is_some (at fs k)) 0 1
  unfolding at put IsStrictlySortedBy
  length-put k v [] s = refl
  length-put k v (f ∷ fs) s = length-put_by k v f fs s.0 (length-put k v fs s.1) (nat_cmp k f.0) refl

  length-without_by : (k : ℕ) (f : ℕ × X) (fs : List (ℕ × X)) → length (without fs k) + cond (is_some (at fs k)) 1 0 ≡ length fs → (r : Ordering) → nat_cmp k f.0 ≡ r → length (without (f ∷ fs) k) + cond (is_some (at (f ∷ fs) k)) 1 0 ≡ length (f ∷ fs)
  unfolding at without
  length-without_by k f fs ih Less h = rw h (omega (arith, ih))
  length-without_by k f fs ih Equal h = rw h (omega arith)
  length-without_by k f fs ih Greater h = rw h (omega (arith, ih))

  length-without : (k : ℕ) (fs : List (ℕ × X)) → length (without fs k) + cond (is_some (at fs k)) 1 0 ≡ length fs
  unfolding at without
  length-without k [] = refl
  length-without k (f ∷ fs) = length-without_by k f fs (length-without k fs) (nat_cmp k f.0) refl

  ascends_by : (q : ℕ) (o : Option X) (es : List (ℕ × Option X)) → IsAbove q (filled es) → Ascends (filled es) → Ascends (filled ((q, o) ∷ es))
  unfolding IsStrictlySortedBy
  ascends_by q None es above s = s
  ascends_by q (Some v) es above s = (above, s)

  filled-ascends : (es : List (ℕ × Option X)) → Ascends es → Ascends (filled es)
  unfolding IsStrictlySortedBy
  filled-ascends [] s = tt
  filled-ascends (e ∷ es) s = ascends_by e.0 e.1 es (filled-above e.0 es s.0) (filled-ascends es s.1)

  fewer_by : (q : ℕ) (o : Option X) (es : List (ℕ × Option X)) → length (filled es) ≤ length es → length (filled ((q, o) ∷ es)) ≤ length ((q, o) ∷ es)
  fewer_by q None es ih = omega (arith, ih)
  fewer_by q (Some v) es ih = omega (arith, ih)

  filled-fewer : (es : List (ℕ × Option X)) → length (filled es) ≤ length es
  filled-fewer [] = omega arith
  filled-fewer (e ∷ es) = fewer_by e.0 e.1 es (filled-fewer es)

  at_by : (k q : ℕ) (o : Option X) (es : List (ℕ × Option X)) → IsAbove q es → at (filled es) k ≡ option_flatten (lookup (is_at (nat_cmp k)) es) → (r : Ordering) → nat_cmp k q ≡ r → at (filled ((q, o) ∷ es)) k ≡ option_flatten (lookup (is_at (nat_cmp k)) ((q, o) ∷ es))
  unfolding at
  at_by k q None es above ih Less h = rw h ih
  at_by k q None es above ih Equal h = rw h (at-above k (filled es) (filled-above k es (same k q es h above)))
  at_by k q None es above ih Greater h = rw h ih
  at_by k q (Some v) es above ih Less h = rw h ih
  at_by k q (Some v) es above ih Equal h = rw h refl
  at_by k q (Some v) es above ih Greater h = rw h ih

  -- the value with an id
  pub filled-at : (k : ℕ) (es : List (ℕ × Option X)) → Ascends es → at (filled es) k ≡ option_flatten (lookup (is_at (nat_cmp k)) es)
  unfolding IsStrictlySortedBy
  filled-at k [] s = at-above k [] tt
  filled-at k (e ∷ es) s = at_by k e.0 e.1 es s.0 (filled-at k es s.1) (nat_cmp k e.0) refl

  put_by : (k q : ℕ) (v : X) (o : Option X) (es : List (ℕ × Option X)) → IsAbove q es → filled (insert_entry nat_cmp es k (Some v)) ≡ put (filled es) k v → (r : Ordering) → nat_cmp k q ≡ r → filled (insert_entry nat_cmp ((q, o) ∷ es) k (Some v)) ≡ put (filled ((q, o) ∷ es)) k v
  unfolding put
  put_by k q v None es above ih Less h = rw h (sym (put-above k v (filled es) (filled-above k es (lower k q es h above))))
  put_by k q v None es above ih Equal h =
      rw h (ap (λ t. (t, v) ∷ filled es) (sym (nat_cmp-IsAntisymmetric k q h)) ∙ sym (put-above k v (filled es) (filled-above k es (same k q es h above))))
  put_by k q v None es above ih Greater h = rw h ih
  put_by k q v (Some w) es above ih Less h = rw h refl
  put_by k q v (Some w) es above ih Equal h = rw h refl
  put_by k q v (Some w) es above ih Greater h = rw h (ap (λ t. (q, w) ∷ t) ih)

  -- a value that is put at an id, with one or without one
  pub filled-put : (k : ℕ) (v : X) (es : List (ℕ × Option X)) → Ascends es → filled (insert_entry nat_cmp es k (Some v)) ≡ put (filled es) k v
  unfolding IsStrictlySortedBy
  filled-put k v [] s = sym (put-above k v [] tt)
  filled-put k v (e ∷ es) s = put_by k e.0 v e.1 es s.0 (filled-put k v es s.1) (nat_cmp k e.0) refl

  room_by : (k q : ℕ) (o : Option X) (es : List (ℕ × Option X)) → (lookup (is_at (nat_cmp k)) es ≡ None → filled (insert_entry nat_cmp es k None) ≡ filled es) → lookup (is_at (nat_cmp k)) ((q, o) ∷ es) ≡ None → (r : Ordering) → nat_cmp k q ≡ r → filled (insert_entry nat_cmp ((q, o) ∷ es) k None) ≡ filled ((q, o) ∷ es)
  room_by k q o es ih none Less h = rw h refl
  room_by k q o es ih none Equal h = absurd (none-some o (sym none ∙ ap (λ r. cond (is_eq r) (Some o) (lookup (is_at (nat_cmp k)) es)) h))
  room_by k q o es ih none Greater h = rw h (ap (λ t. cons_option (option_map (λ v. (q, v)) o) t) (ih (sym (ap (λ r. cond (is_eq r) (Some o) (lookup (is_at (nat_cmp k)) es)) h) ∙ none)))

  -- room that is made for an id
  pub filled-room : (k : ℕ) (es : List (ℕ × Option X)) → lookup (is_at (nat_cmp k)) es ≡ None → filled (insert_entry nat_cmp es k None) ≡ filled es
  filled-room k [] none = refl
  filled-room k (e ∷ es) none = room_by k e.0 e.1 es (filled-room k es) none (nat_cmp k e.0) refl

  vacated_by : (k q : ℕ) (o : Option X) (es : List (ℕ × Option X)) → IsAbove q es → filled (insert_entry nat_cmp es k None) ≡ without (filled es) k → (r : Ordering) → nat_cmp k q ≡ r → filled (insert_entry nat_cmp ((q, o) ∷ es) k None) ≡ without (filled ((q, o) ∷ es)) k
  unfolding without
  vacated_by k q None es above ih Less h = rw h (sym (without-above k (filled es) (filled-above k es (lower k q es h above))))
  vacated_by k q None es above ih Equal h = rw h (sym (without-above k (filled es) (filled-above k es (same k q es h above))))
  vacated_by k q None es above ih Greater h = rw h ih
  vacated_by k q (Some v) es above ih Less h = rw h (ap (λ t. (q, v) ∷ t) (sym (without-above k (filled es) (filled-above k es (lower k q es h above)))))
  vacated_by k q (Some v) es above ih Equal h = rw h refl
  vacated_by k q (Some v) es above ih Greater h = rw h (ap (λ t. (q, v) ∷ t) ih)

  -- an id whose value is taken out, and whose room stays
  pub filled-vacated : (k : ℕ) (es : List (ℕ × Option X)) → Ascends es → filled (insert_entry nat_cmp es k None) ≡ without (filled es) k
  unfolding IsStrictlySortedBy
  filled-vacated k [] s = sym (without-above k [] tt)
  filled-vacated k (e ∷ es) s = vacated_by k e.0 e.1 es s.0 (filled-vacated k es s.1) (nat_cmp k e.0) refl

  unused_by : (b : Bool) (e : ℕ × X) (x : Option X) (es fs : List (ℕ × X)) → cond b (Some e.1) x ≡ None → (x ≡ None → fs ≡ es) → cond b es (e ∷ fs) ≡ e ∷ es
  unused_by true e x es fs none ih = absurd (none-some e.1 (sym none))
  unused_by false e x es fs none ih = ap (λ t. e ∷ t) (ih none)

  -- what is taken out of a list that hasn't it
  pub without-unused : (k : ℕ) (es : List (ℕ × X)) → at es k ≡ None → without es k ≡ es
  unfolding at without
  without-unused k [] none = refl
  without-unused k (e ∷ es) none = unused_by (is_at (nat_cmp k) e.0) e _ es _ none (without-unused k es)

  pub unused_shown : (es fs : List (ℕ × X)) (k : ℕ) → at es k ≡ None → fs ≡ without es k → fs ≡ es
  unused_shown es fs k none is = is ∙ without-unused k es none

  without_by : (k q : ℕ) (o : Option X) (es : List (ℕ × Option X)) → IsAbove q es → filled (remove_entry (is_at (nat_cmp k)) es) ≡ without (filled es) k → (r : Ordering) → nat_cmp k q ≡ r → filled (remove_entry (is_at (nat_cmp k)) ((q, o) ∷ es)) ≡ without (filled ((q, o) ∷ es)) k
  unfolding without
  without_by k q None es above ih Less h = rw h ih
  without_by k q None es above ih Equal h = rw h (sym (without-above k (filled es) (filled-above k es (same k q es h above))))
  without_by k q None es above ih Greater h = rw h ih
  without_by k q (Some v) es above ih Less h = rw h (ap (λ t. (q, v) ∷ t) ih)
  without_by k q (Some v) es above ih Equal h = rw h refl
  without_by k q (Some v) es above ih Greater h = rw h (ap (λ t. (q, v) ∷ t) ih)

  -- an id that is taken out, with its value and its room
  pub filled-without : (k : ℕ) (es : List (ℕ × Option X)) → Ascends es → filled (remove_entry (is_at (nat_cmp k)) es) ≡ without (filled es) k
  unfolding IsStrictlySortedBy
  filled-without k [] s = sym (without-above k [] tt)
  filled-without k (e ∷ es) s = without_by k e.0 e.1 es s.0 (filled-without k es s.1) (nat_cmp k e.0) refl

  found : (b : Bool) (o : Option X) (l : Option (Option X)) → is_some (cond b (Some o) l) ≡ (b || is_some l)
  found true o l = refl
  found false o l = refl

  any_found : (k : ℕ) (es : List (ℕ × Option X)) → is_some (lookup (is_at (nat_cmp k)) es) ≡ list_any (eqb k) (keys_of es)
  any_found k [] = refl
  any_found k (e ∷ es) = found (is_at (nat_cmp k) e.0) e.1 _ ∙ rw (is_at-same k e.0, any_found k es) refl

  some_flat : (o : Option (Option X)) → IsSome (option_flatten o) → IsSome o
  some_flat None h = h
  some_flat (Some o) h = refl

  any_or : (o : Option (Option X)) (b c : Bool) → is_some o ≡ c → b ≡ is_some (option_flatten o) → IsTrue (b || c) → IsSome o
  any_or o true c e f h = some_flat o (sym f)
  any_or o false c e f h = e ∙ h

  -- what is said of a table, from what the map under it did
  module _ (kept : Kept X) (es : List (ℕ × Option X)) (k : ℕ) (is : shown es ≡ kept) where
    pub at_shown : Ascends es → at kept.entries k ≡ option_flatten (lookup (is_at (nat_cmp k)) es)
    at_shown s = ap (λ t. at t.entries k) (sym is) ∙ filled-at k es s

    pub put_shown : Ascends es → (v : X) (fs : List (ℕ × Option X)) → fs ≡ insert_entry nat_cmp es k (Some v) → filled fs ≡ put kept.entries k v
    put_shown s v fs e = ap filled e ∙ filled-put k v es s ∙ ap (λ t. put t.entries k v) is

    pub room_shown : lookup (is_at (nat_cmp k)) es ≡ None → (fs : List (ℕ × Option X)) → fs ≡ insert_entry nat_cmp es k None → filled fs ≡ kept.entries
    room_shown none fs e = ap filled e ∙ filled-room k es none ∙ ap (λ t. t.entries) is

    pub vacated_shown : Ascends es → (fs : List (ℕ × Option X)) → fs ≡ insert_entry nat_cmp es k None → filled fs ≡ without kept.entries k
    vacated_shown s fs e = ap filled e ∙ filled-vacated k es s ∙ ap (λ t. without t.entries k) is

    pub without_shown : Ascends es → (fs : List (ℕ × Option X)) → fs ≡ remove_entry (is_at (nat_cmp k)) es → filled fs ≡ without kept.entries k
    without_shown s fs e = ap filled e ∙ filled-without k es s ∙ ap (λ t. without t.entries k) is

    pub value_shown : Ascends es → (o : Option (Option X)) (r : Option X) → o ≡ lookup (is_at (nat_cmp k)) es → r ≡ option_flatten o → r ≡ at kept.entries k
    value_shown s o r e f = f ∙ ap option_flatten e ∙ sym (at_shown s)

    pub counted_more : Ascends es → (n m : ℕ) (b : Bool) (r : Option X) (v : X) (fs : List (ℕ × Option X)) → n ≡ length (filled es) → r ≡ at kept.entries k → is_some r ≡ not b → m ≡ from_bool b → fs ≡ insert_entry nat_cmp es k (Some v) → n + m ≡ length (filled fs)
    counted_more s n m b r v fs count there t byte e =
        let old : is_some (at (filled es) k) ≡ not b = ap (λ x. is_some (at x.entries k)) is ∙ sym (ap is_some there) ∙ t in
        let more = length-put k v (filled es) (filled-ascends es s) in
        let one = byte ∙ added b _ old in
        let after = ap length (ap filled e ∙ filled-put k v es s) in
        omega (arith, count, more, one, after)

    taken : Ascends es → (n m : ℕ) (b : Bool) (r : Option X) (fs : List (ℕ × Option X)) → n ≡ length (filled es) → r ≡ at kept.entries k → b ≡ is_some r → m ≡ from_bool b → fs ≡ remove_entry (is_at (nat_cmp k)) es → length (filled fs) + m ≡ n
    taken s n m b r fs count there t byte e =
        let old : is_some (at (filled es) k) ≡ b = ap (λ x. is_some (at x.entries k)) is ∙ sym (ap is_some there) ∙ sym t in
        let less = length-without k (filled es) in
        let one = byte ∙ removed b _ old in
        let after = ap length (ap filled e ∙ filled-without k es s) in
        omega (arith, count, less, one, after)

    pub counted_less : Ascends es → (n m : ℕ) (b : Bool) (r : Option X) (fs : List (ℕ × Option X)) → n ≡ length (filled es) → r ≡ at kept.entries k → b ≡ is_some r → m ≡ from_bool b → fs ≡ remove_entry (is_at (nat_cmp k)) es → (m ≤ n) × (n - m ≡ length (filled fs))
    counted_less s n m b r fs count there t byte e = let sum = taken s n m b r fs count there t byte e in (omega (arith, sum), omega (arith, sum))

    vacated : Ascends es → (n m : ℕ) (b : Bool) (r : Option X) (fs : List (ℕ × Option X)) → n ≡ length (filled es) → r ≡ at kept.entries k → b ≡ is_some r → m ≡ from_bool b → fs ≡ insert_entry nat_cmp es k None → length (filled fs) + m ≡ n
    vacated s n m b r fs count there t byte e =
        let old : is_some (at (filled es) k) ≡ b = ap (λ x. is_some (at x.entries k)) is ∙ sym (ap is_some there) ∙ sym t in
        let less = length-without k (filled es) in
        let one = byte ∙ removed b _ old in
        let after = ap length (ap filled e ∙ filled-vacated k es s) in
        omega (arith, count, less, one, after)

    pub counted_vacated : Ascends es → (n m : ℕ) (b : Bool) (r : Option X) (fs : List (ℕ × Option X)) → n ≡ length (filled es) → r ≡ at kept.entries k → b ≡ is_some r → m ≡ from_bool b → fs ≡ insert_entry nat_cmp es k None → (m ≤ n) × (n - m ≡ length (filled fs))
    counted_vacated s n m b r fs count there t byte e = let sum = vacated s n m b r fs count there t byte e in (omega (arith, sum), omega (arith, sum))

    -- a value that was lent, and what was left in its place
    module _ (s : Ascends es) (y : Option X) (v w : X) (fs : List (ℕ × Option X)) (found : Some y ≡ lookup (is_at (nat_cmp k)) es) (there : Some v ≡ y) (e : fs ≡ set_value (is_at (nat_cmp k)) es (Some w)) where
      lent_put : fs ≡ insert_entry nat_cmp es k (Some w)
      lent_put = e ∙ set_there k y (Some w) es s (sym found)

      pub lent_shown : keys_of fs ≡ keys_of es → shown fs ≡ kept_with kept k w
      lent_shown ids =
          let values : filled fs ≡ put (filled es) k w = ap filled lent_put ∙ filled-put k w es s in
          subst (λ (t : Kept X). shown fs ≡ kept_with t k w) is (rw (values, ids) refl)

      pub lent_counted : (n : ℕ) → n ≡ length (filled es) → n ≡ length (filled fs)
      lent_counted n count =
          let old : is_some (at (filled es) k) ≡ true = ap is_some (filled-at k es s ∙ ap option_flatten (sym found)) ∙ ap is_some (sym there) in
          let more = length-put k w (filled es) (filled-ascends es s) ∙ ap (λ b. length (filled es) + cond b 0 1) old in
          let after = ap length (ap filled lent_put ∙ filled-put k w es s) in
          omega (arith, count, more, after)

    -- what was found, left as it was
    module _ (y : Option X) (fs : List (ℕ × Option X)) (found : Some y ≡ lookup (is_at (nat_cmp k)) es) (e : fs ≡ set_value (is_at (nat_cmp k)) es y) where
      left : fs ≡ es
      left = e ∙ set_value_same (is_at (nat_cmp k)) es y (sym found)

      pub left_shown : shown fs ≡ kept
      left_shown = ap shown left ∙ is

      pub left_counted : (n : ℕ) → n ≡ length (filled es) → n ≡ length (filled fs)
      left_counted n count = count ∙ ap (λ t. length (filled t)) (sym left)

    pub found_from_room : Ascends es → HasRoom kept k → IsSome (lookup (is_at (nat_cmp k)) es)
    unfolding HasRoom
    found_from_room s h = any_or _ _ _ (any_found k es ∙ ap (λ t. list_any (eqb k) t.room) is) (ap is_some (at_shown s)) h

    pub not_refused : Ascends es → HasRoom kept k → lookup (is_at (nat_cmp k)) es ≡ None → ⊥
    not_refused s h none = true≢false (sym (found_from_room s h) ∙ ap is_some none)

  pub fits : (es : List (ℕ × Option X)) (n m size : ℕ) (b : Bool) → n ≡ length (filled es) → size < 2 ^ 63 → size ≡ length es → m ≡ from_bool b → Fits w64 (n + m)
  fits es n m size b count small is e = let one = at_most_one b in let fewer = filled-fewer es in omega (arith, count, small, is, e, one, fewer)

  pub room_from_found : (k : ℕ) (es : List (ℕ × Option X)) → IsSome (lookup (is_at (nat_cmp k)) es) → HasRoom (shown es) k
  unfolding HasRoom
  room_from_found k es h = rw (sym (any_found k es), h) (or_true _)

  some_put : (b : Bool) (o : Option X) (l : Option (Option X)) → IsSome l → IsSome (cond b (Some o) l)
  some_put true o l h = refl
  some_put false o l h = h

  module _ (kept : Kept X) (es fs : List (ℕ × Option X)) (k : ℕ) (is : shown es ≡ kept) (s : Ascends es) where
    pub room_kept : (o : Option X) → ((q : ℕ) → lookup (is_at (nat_cmp q)) fs ≡ cond (is_at (nat_cmp k) q) (Some o) (lookup (is_at (nat_cmp q)) es)) → KeepsRoom kept (shown fs)
    room_kept o h i r = room_from_found i fs (ap is_some (h i) ∙ some_put _ o _ (found_from_room kept es i is s r))

    pub other_room_kept : ((q : ℕ) → is_at (nat_cmp k) q ≡ false → lookup (is_at (nat_cmp q)) fs ≡ lookup (is_at (nat_cmp q)) es) → KeepsOtherRoom k kept (shown fs)
    other_room_kept h i apart r = room_from_found i fs (ap is_some (h i (is_at-same k i ∙ eqb-apart k i apart)) ∙ found_from_room kept es i is s r)

  ids_by : (k : ℕ) (o : Option X) (es : List (ℕ × Option X)) → map (λ e. e.0) (filter (λ e. is_some e.1) es) ≡ ids_of (filled es) → map (λ e. e.0) (filter (λ e. is_some e.1) ((k, o) ∷ es)) ≡ ids_of (filled ((k, o) ∷ es))
  ids_by k None es ih = ih
  ids_by k (Some v) es ih = ap (λ t. k ∷ t) ih

  ids_listed : (es : List (ℕ × Option X)) → map (λ e. e.0) (filter (λ e. is_some e.1) es) ≡ ids_of (filled es)
  ids_listed [] = refl
  ids_listed (e ∷ es) = ids_by e.0 e.1 es (ids_listed es)

  -- the ids with a value
  pub ids_shown : (kept : Kept X) (es : List (ℕ × Option X)) (is : List ℕ) → shown es ≡ kept → is ≡ map (λ e. e.0) (filter (λ e. is_some e.1) es) → is ≡ ids_of kept.entries
  ids_shown kept es is s e = e ∙ ids_listed es ∙ ap (λ t. ids_of t.entries) s

  -- and they ascend
  pub ids_ascend : (kept : Kept X) (es : List (ℕ × Option X)) (is : List ℕ) → shown es ≡ kept → Ascends es → is ≡ map (λ e. e.0) (filter (λ e. is_some e.1) es) → IsStrictlySortedBy nat_cmp is
  ids_ascend kept es is shows s e = subst (λ ks. IsStrictlySortedBy nat_cmp ks) (sym (e ∙ ids_listed es)) (filled-ascends es s)
