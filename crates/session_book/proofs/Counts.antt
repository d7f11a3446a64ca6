-- How many calls each tunnel has, as records come and go.
use Rattle.std.proofs.Common.{◌≡◌, inl, inr, ℕ, zero, suc, ◌+◌, ◌-◌, ◌<◌, ◌≤◌, Bool, true, false, cond, ◌&&◌, ◌==◌, not, List, [], ◌∷◌, length, map, filter, get_or, Some, None, is_some, refl, sym, ◌∙◌, ap, subst, arith}
use Rattle.std.specs.Prelude.{nat_lt, nat_le, nat_eq, slice_set, slice_index}
use Rattle.std.specs.List.{AllByRecursion, insert, remove}
use Rattle.std.proofs.lemmas.Bool.{cases_eq, cases_lt}
use Rattle.std.proofs.lemmas.Bool.Decides.{nat_tests}
use Rattle.session_book.specs.declared.record.BookTunnel.{BookTunnel}
use Rattle.session_book.specs.declared.record.BookCall.{BookCall}
use Rattle.session_book.specs.declared.record.Record.{Record}
use Rattle.session_book.specs.declared.record.Record.TheVariants.{TunnelUp, CallUp}
use Rattle.session_book.specs.Books.{Held, Kept, AreRising, place, with_id, entry, put, calls_of, mark_on, marked, tunnels_without, calls_without, calls_not_of, counts_of, tunnel_at, call_at, is_free, fits}
use Rattle.session_book.specs.Spelling.{IsKeptCall, IsWhole}
use Rattle.session_book.proofs.Whole.{below, not_below, same, of_below, first, second, of_not, some_is, entry_later, entry_here, put_passes}

module _ {X Y : Type 0} (g : X → Y) where
  pub map_insert : (xs : List X) (i : ℕ) (y : X) → map g (insert xs i y) ≡ insert (map g xs) i (g y)
  map_insert xs zero y = refl
  map_insert [] (suc i) y = refl
  map_insert (x ∷ xs) (suc i) y = ap (λ l. g x ∷ l) (map_insert xs i y)

  pub map_remove : (xs : List X) (i : ℕ) → map g (remove xs i) ≡ remove (map g xs) i
  map_remove [] zero = refl
  map_remove (x ∷ xs) zero = refl
  map_remove [] (suc i) = refl
  map_remove (x ∷ xs) (suc i) = ap (λ l. g x ∷ l) (map_remove xs i)

-- ---- one that is there

module _ {X : Type 0} (f : X → ℕ) where
  place_later : (id : ℕ) (x : X) (xs : List X) → f x < id → place f id (x ∷ xs) ≡ suc (place f id xs)
  place_later id x xs lt = ap (λ b. cond b (1 + place f id xs) 0) (below (f x) id lt) ∙ omega arith

  place_here : (id : ℕ) (x : X) (xs : List X) → id ≤ f x → place f id (x ∷ xs) ≡ 0
  place_here id x xs le = ap (λ b. cond b (1 + place f id xs) 0) (not_below (f x) id le)

  -- its place is one of the list
  pub there_within : (id : ℕ) (xs : List X) → is_some (entry f id xs) ≡ true → place f id xs < length xs
  there_within id [] is = absurd cc
  there_within id (x ∷ xs) is = elim (cases_lt (f x) id) [
    | inl lt ↦
        let more = there_within id xs (ap is_some (sym (entry_later f id x xs lt)) ∙ is) in
        let at = place_later id x xs lt in
        omega arith
    | inr le ↦ let at = place_here id x xs le in omega arith
  ]

  -- and it is the one at that place
  pub there_at : (id : ℕ) (xs : List X) (d : X) → is_some (entry f id xs) ≡ true → entry f id xs ≡ Some (get_or xs (place f id xs) d)
  there_at id [] d is = absurd cc
  there_at id (x ∷ xs) d is = elim (cases_lt (f x) id) [
    | inl lt ↦ entry_later f id x xs lt ∙ there_at id xs d (ap is_some (sym (entry_later f id x xs lt)) ∙ is)
        ∙ ap (λ n. Some (get_or (x ∷ xs) n d)) (sym (place_later id x xs lt))
    | inr le ↦
        let own : f x ≡ id = some_is f id x (ap is_some (sym (entry_here f id x xs le)) ∙ is) in
        entry_here f id x xs le ∙ ap (λ b. cond b (Some x) None) (same (f x) id own)
        ∙ ap (λ n. Some (get_or (x ∷ xs) n d)) (sym (place_here id x xs le))
  ]

  pub there_id : (id : ℕ) (xs : List X) (d : X) → is_some (entry f id xs) ≡ true → f (get_or xs (place f id xs) d) ≡ id
  there_id id [] d is = absurd cc
  there_id id (x ∷ xs) d is = elim (cases_lt (f x) id) [
    | inl lt ↦ ap (λ n. f (get_or (x ∷ xs) n d)) (place_later id x xs lt) ∙ there_id id xs d (ap is_some (sym (entry_later f id x xs lt)) ∙ is)
    | inr le ↦
        let own : f x ≡ id = some_is f id x (ap is_some (sym (entry_here f id x xs le)) ∙ is) in
        ap (λ n. f (get_or (x ∷ xs) n d)) (place_here id x xs le) ∙ own
  ]

  rising_tail : (x : X) (xs : List X) → AreRising f (x ∷ xs) → AreRising f xs
  rising_tail x xs up = λ i j d lt within. up (suc i) (suc j) d (omega arith) (omega arith)

  -- those behind it have other ids
  others : (x : X) (xs : List X) → AreRising f (x ∷ xs) → AllByRecursion (λ y. nat_eq (f y) (f x) ≡ false) xs
  others x [] up = tt
  others x (y ∷ ys) up =
      let lt : f x < f y = up 0 1 x (omega arith) (omega arith) in
      let other : nat_eq (f y) (f x) ≡ false = grind (arith, nat_tests) in
      (other, others x ys (skip x y ys up))
    where
      skip : (x y : X) (ys : List X) → AreRising f (x ∷ (y ∷ ys)) → AreRising f (x ∷ ys)
      skip x y ys up zero zero d lt within = absurd (omega arith)
      skip x y ys up zero (suc j) d lt within = up zero (suc (suc j)) d (omega arith) (omega arith)
      skip x y ys up (suc i) zero d lt within = absurd (omega arith)
      skip x y ys up (suc i) (suc j) d lt within = up (suc (suc i)) (suc (suc j)) d (omega arith) (omega arith)

  all_stay : (id : ℕ) (xs : List X) → AllByRecursion (λ y. nat_eq (f y) id ≡ false) xs → filter (λ x. not (f x == id)) xs ≡ xs
  all_stay id [] all = refl
  all_stay id (x ∷ xs) all =
      let left = filter (λ y. not (f y == id)) xs in
      ap (λ b. cond (not b) (x ∷ left) left) all.0 ∙ ap (λ l. x ∷ l) (all_stay id xs all.1)

  -- without the one that has an id, the list is without the one at its place
  pub without_is_remove : (id : ℕ) (xs : List X) → AreRising f xs → is_some (entry f id xs) ≡ true
      → filter (λ x. not (f x == id)) xs ≡ remove xs (place f id xs)
  without_is_remove id [] up is = absurd cc
  without_is_remove id (x ∷ xs) up is =
      let left = filter (λ y. not (f y == id)) xs in
      elim (cases_lt (f x) id) [
        | inl lt ↦
            let no : nat_eq (f x) id ≡ false = grind (arith, nat_tests) in
            ap (λ b. cond (not b) (x ∷ left) left) no
            ∙ ap (λ l. x ∷ l) (without_is_remove id xs (rising_tail x xs up) (ap is_some (sym (entry_later f id x xs lt)) ∙ is))
            ∙ ap (λ n. remove (x ∷ xs) n) (sym (place_later id x xs lt))
        | inr le ↦
            let own : f x ≡ id = some_is f id x (ap is_some (sym (entry_here f id x xs le)) ∙ is) in
            let rest : AllByRecursion (λ y. nat_eq (f y) id ≡ false) xs = subst (λ (n : ℕ). AllByRecursion (λ y. nat_eq (f y) n ≡ false) xs) own (others x xs up) in
            ap (λ b. cond (not b) (x ∷ left) left) (same (f x) id own)
            ∙ all_stay id xs rest
            ∙ ap (λ n. remove (x ∷ xs) n) (sym (place_here id x xs le))
      ]

  module _ {Y : Type 0} (g h : X → Y) (id : ℕ) (apart : (x : X) → nat_eq (f x) id ≡ false → h x ≡ g x) where
    same_map : (xs : List X) → AllByRecursion (λ y. nat_eq (f y) id ≡ false) xs → map h xs ≡ map g xs
    same_map [] all = refl
    same_map (x ∷ xs) all = ap (λ y. y ∷ map h xs) (apart x all.0) ∙ ap (λ l. g x ∷ l) (same_map xs all.1)

    -- what changes for one id alone changes at its place alone
    pub one_place : (xs : List X) (d : X) → AreRising f xs → is_some (entry f id xs) ≡ true
        → map h xs ≡ slice_set (map g xs) (place f id xs) (h (get_or xs (place f id xs) d))
    one_place [] d up is = absurd cc
    one_place (x ∷ xs) d up is = elim (cases_lt (f x) id) [
      | inl lt ↦
          let no : nat_eq (f x) id ≡ false = grind (arith, nat_tests) in
          ap (λ y. y ∷ map h xs) (apart x no)
          ∙ ap (λ l. g x ∷ l) (one_place xs d (rising_tail x xs up) (ap is_some (sym (entry_later f id x xs lt)) ∙ is))
          ∙ ap (λ n. slice_set (map g (x ∷ xs)) n (h (get_or (x ∷ xs) n d))) (sym (place_later id x xs lt))
      | inr le ↦
          let own : f x ≡ id = some_is f id x (ap is_some (sym (entry_here f id x xs le)) ∙ is) in
          let rest : AllByRecursion (λ y. nat_eq (f y) id ≡ false) xs = subst (λ (n : ℕ). AllByRecursion (λ y. nat_eq (f y) n ≡ false) xs) own (others x xs up) in
          ap (λ l. h x ∷ l) (same_map xs rest)
          ∙ ap (λ n. slice_set (map g (x ∷ xs)) n (h (get_or (x ∷ xs) n d))) (sym (place_here id x xs le))
    ]

module _ {X Y : Type 0} (g : X → Y) where
  pub map_at : (xs : List X) (i : ℕ) (d : X) (e : Y) → i < length xs → get_or (map g xs) i e ≡ g (get_or xs i d)
  map_at [] i d e lt = absurd (omega arith)
  map_at (x ∷ xs) zero d e lt = refl
  map_at (x ∷ xs) (suc i) d e lt = map_at xs i d e (omega arith)

module _ {X : Type 0} (p : X → Bool) where
  -- one that passes leaves one less of those that pass
  pub passing_less : (xs : List X) (i : ℕ) (d : X) → i < length xs → p (get_or xs i d) ≡ true → length (filter p (remove xs i)) + 1 ≡ length (filter p xs)
  passing_less [] i d lt is = absurd (omega arith)
  passing_less (x ∷ xs) zero d lt is =
      let n = ap (λ b. length (cond b (x ∷ filter p xs) (filter p xs))) is in
      omega arith
  passing_less (x ∷ xs) (suc i) d lt is = by (p x) (passing_less xs i d (omega arith) is)
    where
      by : (b : Bool) → length (filter p (remove xs i)) + 1 ≡ length (filter p xs)
          → length (cond b (x ∷ filter p (remove xs i)) (filter p (remove xs i))) + 1 ≡ length (cond b (x ∷ filter p xs) (filter p xs))
      by true more = omega arith
      by false more = more

  -- and one that doesn't pass leaves as many
  pub passing_same : (xs : List X) (i : ℕ) (d : X) → i < length xs → p (get_or xs i d) ≡ false → length (filter p (remove xs i)) ≡ length (filter p xs)
  passing_same [] i d lt is = absurd (omega arith)
  passing_same (x ∷ xs) zero d lt is = sym (ap (λ b. length (cond b (x ∷ filter p xs) (filter p xs))) is)
  passing_same (x ∷ xs) (suc i) d lt is = by (p x) (passing_same xs i d (omega arith) is)
    where
      by : (b : Bool) → length (filter p (remove xs i)) ≡ length (filter p xs)
          → length (cond b (x ∷ filter p (remove xs i)) (filter p (remove xs i))) ≡ length (cond b (x ∷ filter p xs) (filter p xs))
      by true more = omega arith
      by false more = more

-- ---- the calls of a tunnel

abbrev own : BookTunnel → ℕ
own t = t.local

abbrev id_of : BookCall → ℕ
id_of c = c.local

-- a tunnel that isn't there has no calls
pub none_of : (m id : ℕ) (ts : List BookTunnel) (cs : List BookCall) → is_some (entry own id ts) ≡ false → AllByRecursion (IsKeptCall m ts) cs
    → length (calls_of id cs) ≡ 0
none_of m id ts [] gone all = refl
none_of m id ts (c ∷ cs) gone all = elim (cases_eq c.tunnel id) [
  | inl is ↦ let there : is_some (entry own id ts) ≡ true = subst (λ (t : ℕ). is_some (entry own t ts) ≡ true) is all.0.over in absurd cc
  | inr other ↦
      let no : nat_eq c.tunnel id ≡ false = grind (arith, nat_tests) in
      ap (λ b. length (cond b (c ∷ calls_of id cs) (calls_of id cs))) no ∙ none_of m id ts cs gone all.1
]

-- a tunnel that is there has as many as its count says
pub count_there : (id : ℕ) (ts : List BookTunnel) (cs : List BookCall) → is_some (entry own id ts) ≡ true
    → slice_index (counts_of ts cs) (place own id ts) ≡ length (calls_of id cs)
count_there id ts cs is =
    let d : BookTunnel = record { local = 0; remote = 0; peer = 0; window = 0; flags = 0; mark = 0 } in
    map_at (λ t. length (calls_of t.local cs)) ts (place own id ts) d 0 (there_within own id ts is)
    ∙ ap (λ n. length (calls_of n cs)) (there_id own id ts d is)

-- a tunnel comes up
pub counts_up : (t : BookTunnel) (ts : List BookTunnel) (cs : List BookCall) → length (calls_of t.local cs) ≡ 0
    → counts_of (put own t ts) cs ≡ insert (counts_of ts cs) (place own t.local ts) 0
counts_up t ts cs none =
    map_insert (λ x. length (calls_of x.local cs)) ts (place own t.local ts) t ∙ ap (λ n. insert (counts_of ts cs) (place own t.local ts) n) none

-- the calls of another tunnel stay where those of one go
calls_stay : (gone id : ℕ) (cs : List BookCall) → nat_eq id gone ≡ false → calls_of id (calls_not_of gone cs) ≡ calls_of id cs
calls_stay gone id [] other = refl
calls_stay gone id (c ∷ cs) other = elim (cases_eq c.tunnel gone) [
  | inl is ↦
      let yes = same c.tunnel gone is in
      let no : nat_eq c.tunnel id ≡ false = grind (arith, nat_tests) in
      ap (λ b. calls_of id (cond (not b) (c ∷ calls_not_of gone cs) (calls_not_of gone cs))) yes
      ∙ calls_stay gone id cs other
      ∙ sym (ap (λ b. cond b (c ∷ calls_of id cs) (calls_of id cs)) no)
  | inr isnt ↦
      let no : nat_eq c.tunnel gone ≡ false = grind (arith, nat_tests) in
      ap (λ b. calls_of id (cond (not b) (c ∷ calls_not_of gone cs) (calls_not_of gone cs))) no
      ∙ ap (λ l. cond (c.tunnel == id) (c ∷ l) l) (calls_stay gone id cs other)
]

counts_stay : (gone : ℕ) (ts : List BookTunnel) (cs : List BookCall) → counts_of (tunnels_without gone ts) (calls_not_of gone cs) ≡ counts_of (tunnels_without gone ts) cs
counts_stay gone [] cs = refl
counts_stay gone (t ∷ ts) cs = by (t.local == gone) refl (counts_stay gone ts cs)
  where
    by : (b : Bool) → nat_eq t.local gone ≡ b → counts_of (tunnels_without gone ts) (calls_not_of gone cs) ≡ counts_of (tunnels_without gone ts) cs
        → counts_of (cond (not b) (t ∷ tunnels_without gone ts) (tunnels_without gone ts)) (calls_not_of gone cs)
        ≡ counts_of (cond (not b) (t ∷ tunnels_without gone ts) (tunnels_without gone ts)) cs
    by true is more = more
    by false is more =
        ap (λ n. n ∷ counts_of (tunnels_without gone ts) (calls_not_of gone cs)) (ap length (calls_stay gone t.local cs is))
        ∙ ap (λ l. length (calls_of t.local cs) ∷ l) more

-- a tunnel goes, with its calls
pub counts_down : (gone : ℕ) (ts : List BookTunnel) (cs : List BookCall) → AreRising own ts → is_some (entry own gone ts) ≡ true
    → counts_of (tunnels_without gone ts) (calls_not_of gone cs) ≡ remove (counts_of ts cs) (place own gone ts)
counts_down gone ts cs up is =
    counts_stay gone ts cs ∙ ap (λ l. counts_of l cs) (without_is_remove own gone ts up is)
    ∙ map_remove (λ x. length (calls_of x.local cs)) ts (place own gone ts)

-- where a tunnel has no calls, none goes with it
pub none_go : (gone : ℕ) (cs : List BookCall) → length (calls_of gone cs) ≡ 0 → calls_not_of gone cs ≡ cs
none_go gone [] none = refl
none_go gone (c ∷ cs) none = by (c.tunnel == gone) none (λ less. none_go gone cs less)
  where
    by : (b : Bool) → length (cond b (c ∷ calls_of gone cs) (calls_of gone cs)) ≡ 0 → (length (calls_of gone cs) ≡ 0 → calls_not_of gone cs ≡ cs)
        → cond (not b) (c ∷ calls_not_of gone cs) (calls_not_of gone cs) ≡ c ∷ cs
    by true is more = absurd (omega arith)
    by false is more = ap (λ l. c ∷ l) (more is)

-- a call comes up
pub counts_raised : (c : BookCall) (ts : List BookTunnel) (cs : List BookCall) → AreRising own ts → is_some (entry own c.tunnel ts) ≡ true
    → counts_of ts (put id_of c cs) ≡ slice_set (counts_of ts cs) (place own c.tunnel ts) (slice_index (counts_of ts cs) (place own c.tunnel ts) + 1)
counts_raised c ts cs up is =
    let d : BookTunnel = record { local = 0; remote = 0; peer = 0; window = 0; flags = 0; mark = 0 } in
    let more : length (calls_of c.tunnel (put id_of c cs)) ≡ slice_index (counts_of ts cs) (place own c.tunnel ts) + 1 =
    (let passes = put_passes id_of (λ (x : BookCall). x.tunnel == c.tunnel) c cs in
    let one : filter (λ x. x.tunnel == c.tunnel) (c ∷ cs) ≡ c ∷ calls_of c.tunnel cs =
    ap (λ b. cond b (c ∷ calls_of c.tunnel cs) (calls_of c.tunnel cs)) (same c.tunnel c.tunnel refl) in
    let n = ap length one in
    let was = count_there c.tunnel ts cs is in
    omega arith) in
    one_place own (λ t. length (calls_of t.local cs)) (λ t. length (calls_of t.local (put id_of c cs))) c.tunnel (λ t other.
    (let passes = put_passes id_of (λ (x : BookCall). x.tunnel == t.local) c cs in
    let no : nat_eq c.tunnel t.local ≡ false = grind (arith, nat_tests) in
    passes ∙ ap (λ b. length (cond b (c ∷ calls_of t.local cs) (calls_of t.local cs))) no)) ts d up is
    ∙ ap (λ n. slice_set (counts_of ts cs) (place own c.tunnel ts) (length (calls_of n (put id_of c cs)))) (there_id own c.tunnel ts d is)
    ∙ ap (λ n. slice_set (counts_of ts cs) (place own c.tunnel ts) n) more

-- how many calls a tunnel has without one
fewer : (c : BookCall) (id : ℕ) (cs : List BookCall) → AreRising id_of cs → entry id_of id cs ≡ Some c → length (calls_of c.tunnel (calls_without id cs)) + 1 ≡ length (calls_of c.tunnel cs)
fewer c id cs up is =
    let there : is_some (entry id_of id cs) ≡ true = ap is_some is in
    let at : get_or cs (place id_of id cs) c ≡ c = (let a = there_at id_of id cs c there in cc) in
    ap (λ l. length (calls_of c.tunnel l) + 1) (without_is_remove id_of id cs up there)
    ∙ passing_less (λ x. x.tunnel == c.tunnel) cs (place id_of id cs) c (there_within id_of id cs there) (same _ _ (ap (λ x. x.tunnel) at))

as_many : (c : BookCall) (id tunnel : ℕ) (cs : List BookCall) → AreRising id_of cs → entry id_of id cs ≡ Some c → nat_eq tunnel c.tunnel ≡ false
    → length (calls_of tunnel (calls_without id cs)) ≡ length (calls_of tunnel cs)
as_many c id tunnel cs up is other =
    let there : is_some (entry id_of id cs) ≡ true = ap is_some is in
    let at : get_or cs (place id_of id cs) c ≡ c = (let a = there_at id_of id cs c there in cc) in
    let no : nat_eq c.tunnel tunnel ≡ false = grind (arith, nat_tests) in
    ap (λ l. length (calls_of tunnel l)) (without_is_remove id_of id cs up there)
    ∙ passing_same (λ x. x.tunnel == tunnel) cs (place id_of id cs) c (there_within id_of id cs there) (ap (λ (x : BookCall). x.tunnel == tunnel) at ∙ no)

-- a call goes
pub counts_lowered : (c : BookCall) (id : ℕ) (ts : List BookTunnel) (cs : List BookCall) → AreRising own ts → AreRising id_of cs → is_some (entry own c.tunnel ts) ≡ true
    → entry id_of id cs ≡ Some c
    → counts_of ts (calls_without id cs) ≡ slice_set (counts_of ts cs) (place own c.tunnel ts) (slice_index (counts_of ts cs) (place own c.tunnel ts) - 1)
counts_lowered c id ts cs up rising is at =
    let d : BookTunnel = record { local = 0; remote = 0; peer = 0; window = 0; flags = 0; mark = 0 } in
    let less : length (calls_of c.tunnel (calls_without id cs)) ≡ slice_index (counts_of ts cs) (place own c.tunnel ts) - 1 =
    (let n = fewer c id cs rising at in let was = count_there c.tunnel ts cs is in omega arith) in
    one_place own (λ t. length (calls_of t.local cs)) (λ t. length (calls_of t.local (calls_without id cs))) c.tunnel
    (λ t other. as_many c id t.local cs rising at other) ts d up is
    ∙ ap (λ n. slice_set (counts_of ts cs) (place own c.tunnel ts) (length (calls_of n (calls_without id cs)))) (there_id own c.tunnel ts d is)
    ∙ ap (λ n. slice_set (counts_of ts cs) (place own c.tunnel ts) n) less

-- the tunnel of a call has a call
pub has_one : (c : BookCall) (id : ℕ) (ts : List BookTunnel) (cs : List BookCall) → AreRising id_of cs → is_some (entry own c.tunnel ts) ≡ true → entry id_of id cs ≡ Some c
    → 0 < slice_index (counts_of ts cs) (place own c.tunnel ts)
has_one c id ts cs rising is at = let n = fewer c id cs rising at in let was = count_there c.tunnel ts cs is in omega arith

-- a call that is there is over a tunnel that is there
pub over_there : (m id : ℕ) (c : BookCall) (ts : List BookTunnel) (cs : List BookCall) → AllByRecursion (IsKeptCall m ts) cs → entry id_of id cs ≡ Some c
    → is_some (entry own c.tunnel ts) ≡ true
over_there m id c ts [] all at = absurd cc
over_there m id c ts (x ∷ xs) all at = elim (cases_lt x.local id) [
  | inl lt ↦ over_there m id c ts xs all.1 (sym (entry_later id_of id x xs lt) ∙ at)
  | inr le ↦
      let here : entry id_of id (x ∷ xs) ≡ with_id id_of id (Some x) = entry_here id_of id x xs le in
      let is : x.local ≡ id = some_is id_of id x (ap is_some (sym here ∙ at)) in
      let found : Some x ≡ Some c = sym (ap (λ b. cond b (Some x) None) (same x.local id is)) ∙ sym here ∙ at in
      let equal : x ≡ c = cc in
      subst (λ (y : BookCall). is_some (entry own y.tunnel ts) ≡ true) equal all.0.over
]

-- ---- a mark

mark_stays : (id m : ℕ) (t : BookTunnel) → (mark_on id m t).local ≡ t.local
mark_stays id m t = by (t.local == id)
  where
    by : (b : Bool) → (cond b (record t { mark = m }) t).local ≡ t.local
    by true = refl
    by false = refl

pub counts_marked : (id m : ℕ) (ts : List BookTunnel) (cs : List BookCall) → counts_of (marked id m ts) cs ≡ counts_of ts cs
counts_marked id m [] cs = refl
counts_marked id m (t ∷ ts) cs =
    ap (λ n. length (calls_of n cs) ∷ counts_of (marked id m ts) cs) (mark_stays id m t)
    ∙ ap (λ l. length (calls_of t.local cs) ∷ l) (counts_marked id m ts cs)

map_same : {X : Type 0} (xs : List X) → map (λ x. x) xs ≡ xs
map_same [] = refl
map_same (x ∷ xs) = ap (λ l. x ∷ l) (map_same xs)

-- a mark changes the tunnel at its place alone
pub marked_at : (id m : ℕ) (ts : List BookTunnel) (d : BookTunnel) → AreRising own ts → is_some (entry own id ts) ≡ true
    → marked id m ts ≡ slice_set ts (place own id ts) (record (get_or ts (place own id ts) d) { mark = m })
marked_at id m ts d up is =
    let t = get_or ts (place own id ts) d in
    one_place own (λ x. x) (λ x. mark_on id m x) id (λ x other. ap (λ b. cond b (record x { mark = m }) x) other) ts d up is
    ∙ ap (λ l. slice_set l (place own id ts) (mark_on id m t)) (map_same ts)
    ∙ ap (λ b. slice_set ts (place own id ts) (cond b (record t { mark = m }) t)) (same t.local id (there_id own id ts d is))

-- ---- what a record that fits has

module _ (k : Kept) where
  pub new_tunnel : (t : BookTunnel) → fits k (TunnelUp t) ≡ true → is_some (tunnel_at k t.local) ≡ false
  new_tunnel t is =
      let few = nat_lt (length k.tunnels) 1024 && (nat_lt 0 t.remote && nat_lt 0 t.window) in
      let free = first (is_free t.local k.tunnel_ceiling (is_some (tunnel_at k t.local))) few is in
      of_not (is_some (tunnel_at k t.local)) (second (nat_lt 0 t.local && nat_le t.local k.tunnel_ceiling) (not (is_some (tunnel_at k t.local))) free)

  over_and_room : (c : BookCall) → fits k (CallUp c) ≡ true → (is_some (tunnel_at k c.tunnel) && nat_lt (length (calls_of c.tunnel k.calls)) 4096) ≡ true
  over_and_room c is = second (is_free c.local k.session_ceiling (is_some (call_at k c.local))) (is_some (tunnel_at k c.tunnel) && nat_lt (length (calls_of c.tunnel k.calls)) 4096) is

  pub over_tunnel : (c : BookCall) → fits k (CallUp c) ≡ true → is_some (tunnel_at k c.tunnel) ≡ true
  over_tunnel c is = first (is_some (tunnel_at k c.tunnel)) (nat_lt (length (calls_of c.tunnel k.calls)) 4096) (over_and_room c is)

  pub room_for : (c : BookCall) → fits k (CallUp c) ≡ true → length (calls_of c.tunnel k.calls) < 4096
  room_for c is = of_below _ 4096 (second (is_some (tunnel_at k c.tunnel)) (nat_lt (length (calls_of c.tunnel k.calls)) 4096) (over_and_room c is))

  -- the counts after a record, where those before it say how many calls each tunnel has
  module _ (counts : List ℕ) (each : counts ≡ counts_of k.tunnels k.calls) (whole : IsWhole k) where
    pub after_up : (t : BookTunnel) (left : List ℕ) (ts : List BookTunnel) → fits k (TunnelUp t) ≡ true → left ≡ insert counts (place own t.local k.tunnels) 0
        → ts ≡ put own t k.tunnels → left ≡ counts_of ts k.calls
    after_up t left ts is made put_is =
        made ∙ ap (λ l. insert l (place own t.local k.tunnels) 0) each
        ∙ sym (counts_up t k.tunnels k.calls (none_of k.session_ceiling t.local k.tunnels k.calls (new_tunnel t is) whole.calls))
        ∙ ap (λ l. counts_of l k.calls) (sym put_is)

    pub after_down : (id : ℕ) (left : List ℕ) (ts : List BookTunnel) (cs : List BookCall) → is_some (tunnel_at k id) ≡ true
        → left ≡ remove counts (place own id k.tunnels) → ts ≡ tunnels_without id k.tunnels → cs ≡ calls_not_of id k.calls → left ≡ counts_of ts cs
    after_down id left ts cs is made gone with =
        made ∙ ap (λ l. remove l (place own id k.tunnels)) each ∙ sym (counts_down id k.tunnels k.calls whole.tunnels_in_order is)
        ∙ ap (λ l. counts_of l (calls_not_of id k.calls)) (sym gone) ∙ ap (counts_of ts) (sym with)

    pub after_call : (c : BookCall) (left : List ℕ) (cs : List BookCall) → fits k (CallUp c) ≡ true
        → left ≡ slice_set counts (place own c.tunnel k.tunnels) (slice_index counts (place own c.tunnel k.tunnels) + 1)
        → cs ≡ put id_of c k.calls → left ≡ counts_of k.tunnels cs
    after_call c left cs is made put_is =
        made ∙ ap (λ l. slice_set l (place own c.tunnel k.tunnels) (slice_index l (place own c.tunnel k.tunnels) + 1)) each
        ∙ sym (counts_raised c k.tunnels k.calls whole.tunnels_in_order (over_tunnel c is)) ∙ ap (counts_of k.tunnels) (sym put_is)

    pub after_call_down : (id : ℕ) (c : BookCall) (left : List ℕ) (cs : List BookCall) → call_at k id ≡ Some c
        → left ≡ slice_set counts (place own c.tunnel k.tunnels) (slice_index counts (place own c.tunnel k.tunnels) - 1)
        → cs ≡ calls_without id k.calls → left ≡ counts_of k.tunnels cs
    after_call_down id c left cs at made gone =
        made ∙ ap (λ l. slice_set l (place own c.tunnel k.tunnels) (slice_index l (place own c.tunnel k.tunnels) - 1)) each
        ∙ sym (counts_lowered c id k.tunnels k.calls whole.tunnels_in_order whole.calls_in_order (over_there k.session_ceiling id c k.tunnels k.calls whole.calls at) at)
        ∙ ap (counts_of k.tunnels) (sym gone)

    pub after_mark : (id m : ℕ) (ts : List BookTunnel) → ts ≡ marked id m k.tunnels → counts ≡ counts_of ts k.calls
    after_mark id m ts is = each ∙ sym (counts_marked id m k.tunnels k.calls) ∙ ap (λ l. counts_of l k.calls) (sym is)

    -- the count of a tunnel may be raised where a call comes up, and lowered where one goes
    pub may_be_raised : (c : BookCall) → fits k (CallUp c) ≡ true → slice_index counts (place own c.tunnel k.tunnels) < 4096
    may_be_raised c is =
        let n = count_there c.tunnel k.tunnels k.calls (over_tunnel c is) in
        let at = ap (λ l. slice_index l (place own c.tunnel k.tunnels)) each in
        let few = room_for c is in
        omega arith

    pub may_be_lowered : (id : ℕ) (c : BookCall) → call_at k id ≡ Some c → 0 < slice_index counts (place own c.tunnel k.tunnels)
    may_be_lowered id c at =
        let n = has_one c id k.tunnels k.calls whole.calls_in_order (over_there k.session_ceiling id c k.tunnels k.calls whole.calls at) at in
        let same_count = ap (λ l. slice_index l (place own c.tunnel k.tunnels)) each in
        omega arith

    pub over_its_tunnel : (id : ℕ) (c : BookCall) → call_at k id ≡ Some c → is_some (tunnel_at k c.tunnel) ≡ true
    over_its_tunnel id c at = over_there k.session_ceiling id c k.tunnels k.calls whole.calls at

    -- a count of a tunnel that is there, and none of any other
    pub counted : (id n : ℕ) → (is_some (tunnel_at k id) ≡ true → n ≡ slice_index counts (place own id k.tunnels)) → (is_some (tunnel_at k id) ≡ false → n ≡ 0)
        → n ≡ length (calls_of id k.calls)
    counted id n there none = by (is_some (tunnel_at k id)) refl
      where
        by : (b : Bool) → is_some (tunnel_at k id) ≡ b → n ≡ length (calls_of id k.calls)
        by true is = there is ∙ ap (λ l. slice_index l (place own id k.tunnels)) each ∙ count_there id k.tunnels k.calls is
        by false is = none is ∙ sym (none_of k.session_ceiling id k.tunnels k.calls is whole.calls)

pub fits_here : (h : Held) (k : Kept) (next r : Record) → k ≡ h.kept → next ≡ r → fits h.kept next ≡ true → fits k r ≡ true
fits_here h k next r here is fit = ap (λ (x : Kept). fits x r) here ∙ ap (fits h.kept) (sym is) ∙ fit
