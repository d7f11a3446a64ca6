-- A record that is in place leaves a book that fits together.
use Rattle.std.proofs.Common.{◌≡◌, inl, inr, ℕ, zero, suc, ◌+◌, ◌<◌, ◌≤◌, Bool, true, false, cond, ◌&&◌, ◌==◌, not, List, [], ◌∷◌, map, filter, slice_get, length, Option, Some, None, is_some, refl, ◌∙◌, ap, subst, arith}
use Rattle.std.specs.Prelude.{nat_lt, nat_le, nat_eq, if◌then◌else◌}
use Rattle.std.specs.List.{AllByRecursion, insert}
use Rattle.std.proofs.lemmas.Bool.{cases_eq}
use Rattle.std.proofs.lemmas.List.{length-map}
use Rattle.std.proofs.lemmas.Bool.Decides.{nat_tests}
use Rattle.session_book.specs.declared.record.BookTunnel.{BookTunnel}
use Rattle.session_book.specs.declared.record.BookCall.{BookCall}
use Rattle.session_book.specs.declared.record.Record.{Record}
use Rattle.session_book.specs.declared.record.Record.TheVariants.{Ceiling, TunnelUp, TunnelDown, CallUp, CallDown, Mark}
use Rattle.session_book.specs.Books.{Kept, AreRising, place, with_id, entry, put, tunnel_at, call_at, calls_of, ceiling, last, raised, is_free, mark_on, marked, fits, stepped}
use Rattle.session_book.proofs.Orders.{marked_rises}
use Rattle.end_names.specs.declared.role.Role.{Role}
use Rattle.book_laws.specs.Books.{AreInPlace, book_after, RecordsNone, SuitsRole, LeavesNone}
use Rattle.book_laws.specs.Starts.{IsSoundTunnel, IsSoundCall, IsSoundBook}
use Rattle.book_laws.proofs.Lists.{and_left, and_right, all_to, filter_rises, put_rises, length_put, put_passes, entry_put, entry_put_other, entry_has, passing, entry_filter}

of_within : (a b : ℕ) → nat_le a b ≡ true → a ≤ b
of_within a b is = grind (arith, nat_tests)

of_not : (b : Bool) → not b ≡ true → b ≡ false
of_not true is = absurd cc
of_not false is = refl

of_below : (a b : ℕ) → nat_lt a b ≡ true → a < b
of_below a b is = grind (arith, nat_tests)

of_same : (a b : ℕ) → nat_eq a b ≡ true → a ≡ b
of_same a b is = grind (arith, nat_tests)

-- ---- lists

module _ {X : Type 0} where
  all_map : (P : X → Type 0) (g : X → X) → ((x : X) → P x → P (g x)) → (xs : List X) → AllByRecursion P xs → AllByRecursion P (map g xs)
  all_map P g f [] all = tt
  all_map P g f (x ∷ xs) all = (f x all.0, all_map P g f xs all.1)

  shorter_by : (b : Bool) (x : X) (left xs : List X) → length left ≤ length xs → length (cond b (x ∷ left) left) ≤ length (x ∷ xs)
  shorter_by true x left xs le = omega (arith, le)
  shorter_by false x left xs le = omega (arith, le)

  filter_shorter : (q : X → Bool) (xs : List X) → length (filter q xs) ≤ length xs
  filter_shorter q [] = omega arith
  filter_shorter q (x ∷ xs) = shorter_by (q x) x (filter q xs) xs (filter_shorter q xs)

  fewer_by : (p : X → Bool) (a b : Bool) (x : X) (left xs : List X) → p x ≡ b → length (filter p left) ≤ length (filter p xs)
      → length (filter p (cond a (x ∷ left) left)) ≤ length (cond b (x ∷ filter p xs) (filter p xs))
  fewer_by p true true x left xs is le =
      let n = ap (λ c. length (cond c (x ∷ filter p left) (filter p left))) is in omega (arith, n, le)
  fewer_by p true false x left xs is le =
      let n = ap (λ c. length (cond c (x ∷ filter p left) (filter p left))) is in omega (arith, n, le)
  fewer_by p false true x left xs is le = omega (arith, le)
  fewer_by p false false x left xs is le = le

  fewer_pass : (p q : X → Bool) (xs : List X) → length (filter p (filter q xs)) ≤ length (filter p xs)
  fewer_pass p q [] = omega arith
  fewer_pass p q (x ∷ xs) = fewer_by p (q x) (p x) x (filter q xs) xs refl (fewer_pass p q xs)

  all_filter : (P Q : X → Type 0) (q : X → Bool) → ((x : X) → q x ≡ true → P x → Q x) → (xs : List X) → AllByRecursion P xs
      → AllByRecursion Q (filter q xs)
  all_filter P Q q f [] all = tt
  all_filter P Q q f (x ∷ xs) all = by (q x) refl (all_filter P Q q f xs all.1)
    where
      by : (b : Bool) → q x ≡ b → AllByRecursion Q (filter q xs) → AllByRecursion Q (cond b (x ∷ filter q xs) (filter q xs))
      by true is more = (f x is all.0, more)
      by false is more = more

  all_insert : (P : X → Type 0) (xs : List X) (n : ℕ) (y : X) → P y → AllByRecursion P xs → AllByRecursion P (insert xs n y)
  all_insert P xs zero y py all = (py, all)
  all_insert P [] (suc n) y py all = (py, tt)
  all_insert P (x ∷ xs) (suc n) y py all = (all.0, all_insert P xs n y py all.1)

module _ {X : Type 0} (f : X → ℕ) where
  -- who is there stays there
  put_keeps : (id : ℕ) (y : X) (xs : List X) → is_some (entry f id xs) ≡ true → is_some (entry f id (put f y xs)) ≡ true
  put_keeps id y xs is = elim (cases_eq id (f y)) [
    | inl own ↦ ap (λ (n : ℕ). is_some (entry f n (put f y xs))) own ∙ ap is_some (entry_put f y xs)
    | inr other ↦ ap is_some (entry_put_other f id y xs other) ∙ is
  ]

  without_keeps : (gone id : ℕ) (xs : List X) → AreRising f xs → nat_eq id gone ≡ false → is_some (entry f id xs) ≡ true
      → is_some (entry f id (filter (λ x. not (f x == gone)) xs)) ≡ true
  without_keeps gone id xs up other is = ap is_some (entry_filter f (λ x. not (f x == gone)) id xs up) ∙ by (entry f id xs) refl is
    where
      by : (o : Option X) → entry f id xs ≡ o → is_some o ≡ true → is_some (passing f (λ x. not (f x == gone)) o) ≡ true
      by None found is = absurd cc
      by (Some x) found is =
          let own = entry_has f id xs x found in
          let stays : not (f x == gone) ≡ true = ap (λ (n : ℕ). not (n == gone)) own ∙ ap not other in
          ap (λ (b : Bool). is_some (cond b (Some x) None)) stays

-- a change that leaves the ids leaves who is there
module _ {X : Type 0} (f : X → ℕ) (g : X → X) (stays : (x : X) → f (g x) ≡ f x) where
  place_stays : (id : ℕ) (xs : List X) → place f id (map g xs) ≡ place f id xs
  place_stays id [] = refl
  place_stays id (x ∷ xs) = ap (λ (n : ℕ). cond (nat_lt n id) (1 + place f id (map g xs)) 0) (stays x)
      ∙ ap (λ (n : ℕ). cond (nat_lt (f x) id) (1 + n) 0) (place_stays id xs)

  map_keeps : (id : ℕ) (xs : List X) → is_some (entry f id xs) ≡ true → is_some (entry f id (map g xs)) ≡ true
  map_keeps id xs is = ap (λ (n : ℕ). is_some (with_id f id (slice_get (map g xs) n))) (place_stays id xs) ∙ at (place f id xs) xs is
    where
      at : (n : ℕ) (ys : List X) → is_some (with_id f id (slice_get ys n)) ≡ true → is_some (with_id f id (slice_get (map g ys) n)) ≡ true
      at n [] h = absurd cc
      at zero (y ∷ ys) h = by h
        where
          by : is_some (cond (f y == id) (Some y) None) ≡ true → is_some (cond (f (g y) == id) (Some (g y)) None) ≡ true
          by h = ap (λ (n : ℕ). is_some (cond (n == id) (Some (g y)) None)) (stays y) ∙ any (f y == id) h
            where
              any : (b : Bool) → is_some (cond b (Some y) None) ≡ true → is_some (cond b (Some (g y)) None) ≡ true
              any true h = refl
              any false h = absurd cc
      at (suc n) (y ∷ ys) h = at n ys h

mark_stays : (at mark : ℕ) (t : BookTunnel) → (mark_on at mark t).local ≡ t.local
mark_stays at mark t = by (t.local == at)
  where
    by : (b : Bool) → (if b then record t { mark = mark } else t).local ≡ t.local
    by true = refl
    by false = refl

-- ---- a record of each kind

module _ (k : Kept) (sound : IsSoundBook k) where
  after_tunnel_ceiling : (number : ℕ) → k.tunnel_ceiling < number → number ≤ 65535 → IsSoundBook (record k { tunnel_ceiling = number })
  after_tunnel_ceiling number above le = record {
    tunnel_ceiling = le;
    session_ceiling = sound.session_ceiling;
    draw_ceiling = sound.draw_ceiling;
    tunnels = all_to (IsSoundTunnel k.tunnel_ceiling) (IsSoundTunnel number) (λ t is. record {
      some = is.some;
      within = (let within = is.within in omega (arith, within, above));
      remote = is.remote;
      window = is.window;
    }) k.tunnels sound.tunnels;
    calls = sound.calls;
    tunnels_rise = sound.tunnels_rise;
    calls_rise = sound.calls_rise;
    homes = sound.homes;
    few_tunnels = sound.few_tunnels;
    few_calls = sound.few_calls;
  }

  after_session_ceiling : (number : ℕ) → k.session_ceiling < number → number ≤ 65534 → IsSoundBook (record k { session_ceiling = number })
  after_session_ceiling number above le = record {
    tunnel_ceiling = sound.tunnel_ceiling;
    session_ceiling = le;
    draw_ceiling = sound.draw_ceiling;
    tunnels = sound.tunnels;
    calls = all_to (IsSoundCall k.session_ceiling) (IsSoundCall number)
        (λ c is. record { some = is.some; within = (let within = is.within in omega (arith, within, above)) }) k.calls sound.calls;
    tunnels_rise = sound.tunnels_rise;
    calls_rise = sound.calls_rise;
    homes = sound.homes;
    few_tunnels = sound.few_tunnels;
    few_calls = sound.few_calls;
  }

  after_draw_ceiling : (number : ℕ) → number ≤ 4294967295 → IsSoundBook (record k { draw_ceiling = number })
  after_draw_ceiling number le = record {
    tunnel_ceiling = sound.tunnel_ceiling;
    session_ceiling = sound.session_ceiling;
    draw_ceiling = le;
    tunnels = sound.tunnels;
    calls = sound.calls;
    tunnels_rise = sound.tunnels_rise;
    calls_rise = sound.calls_rise;
    homes = sound.homes;
    few_tunnels = sound.few_tunnels;
    few_calls = sound.few_calls;
  }

  after_ceiling : (space number : ℕ) → ceiling k space < number → number ≤ last space → IsSoundBook (raised space number k)
  after_ceiling space number above le = by (space == 1) (space == 2) (space == 3) above le
    where
      by : (a b c : Bool) → (if a then k.tunnel_ceiling else if b then k.session_ceiling else if c then k.draw_ceiling else 0) < number
          → number ≤ (if a then 65535 else if b then 65534 else if c then 4294967295 else 0)
          → IsSoundBook (if a then record k { tunnel_ceiling = number } else if b then record k { session_ceiling = number } else if c then record k { draw_ceiling = number } else k)
      by true b c lt le = after_tunnel_ceiling number lt le
      by false true c lt le = after_session_ceiling number lt le
      by false false true lt le = after_draw_ceiling number le
      by false false false lt le = sound

  abbrev home_in : List BookTunnel → BookCall → Type 0
  home_in ts c = is_some (entry (λ (t : BookTunnel). t.local) c.tunnel ts) ≡ true

  after_tunnel_up : (t : BookTunnel) → fits k (TunnelUp t) ≡ true → IsSoundBook (stepped k (TunnelUp t))
  after_tunnel_up t is =
      let id : BookTunnel → ℕ = λ x. x.local in
      let free = and_left (is_free t.local k.tunnel_ceiling (is_some (tunnel_at k t.local))) _ is in
      let rest = and_right (is_free t.local k.tunnel_ceiling (is_some (tunnel_at k t.local))) _ is in
      let few = of_below (length k.tunnels) 1024 (and_left (nat_lt (length k.tunnels) 1024) (nat_lt 0 t.remote && nat_lt 0 t.window) rest) in
      let told = and_right (nat_lt (length k.tunnels) 1024) (nat_lt 0 t.remote && nat_lt 0 t.window) rest in
      let range = and_left (nat_lt 0 t.local && nat_le t.local k.tunnel_ceiling) (not (is_some (tunnel_at k t.local))) free in
      let new = of_not (is_some (tunnel_at k t.local)) (and_right (nat_lt 0 t.local && nat_le t.local k.tunnel_ceiling) (not (is_some (tunnel_at k t.local))) free) in
      let one : IsSoundTunnel k.tunnel_ceiling t = record {
        some = of_below 0 t.local (and_left (nat_lt 0 t.local) (nat_le t.local k.tunnel_ceiling) range);
        within = of_within t.local k.tunnel_ceiling (and_right (nat_lt 0 t.local) (nat_le t.local k.tunnel_ceiling) range);
        remote = of_below 0 t.remote (and_left (nat_lt 0 t.remote) (nat_lt 0 t.window) told);
        window = of_below 0 t.window (and_right (nat_lt 0 t.remote) (nat_lt 0 t.window) told);
      } in
      record {
        tunnel_ceiling = sound.tunnel_ceiling;
        session_ceiling = sound.session_ceiling;
        draw_ceiling = sound.draw_ceiling;
        tunnels = all_insert (IsSoundTunnel k.tunnel_ceiling) k.tunnels (place id t.local k.tunnels) t one sound.tunnels;
        calls = sound.calls;
        tunnels_rise = put_rises id t k.tunnels new sound.tunnels_rise;
        calls_rise = sound.calls_rise;
        homes = all_to (home_in k.tunnels) (home_in (put id t k.tunnels)) (λ c on. put_keeps id c.tunnel t k.tunnels on) k.calls sound.homes;
        few_tunnels = (let long = length_put id t k.tunnels in omega (arith, long, few));
        few_calls = sound.few_calls;
      }

  after_tunnel_down : (gone : ℕ) → IsSoundBook (stepped k (TunnelDown gone))
  after_tunnel_down gone =
      let id : BookTunnel → ℕ = λ x. x.local in
      let left = filter (λ (t : BookTunnel). not (t.local == gone)) k.tunnels in
      record {
        tunnel_ceiling = sound.tunnel_ceiling;
        session_ceiling = sound.session_ceiling;
        draw_ceiling = sound.draw_ceiling;
        tunnels = all_filter (IsSoundTunnel k.tunnel_ceiling) (IsSoundTunnel k.tunnel_ceiling) (λ t. not (t.local == gone)) (λ t stays is. is) k.tunnels sound.tunnels;
        calls = all_filter (IsSoundCall k.session_ceiling) (IsSoundCall k.session_ceiling) (λ c. not (c.tunnel == gone)) (λ c stays is. is) k.calls sound.calls;
        tunnels_rise = filter_rises id (λ t. not (t.local == gone)) k.tunnels sound.tunnels_rise;
        calls_rise = filter_rises (λ (c : BookCall). c.local) (λ c. not (c.tunnel == gone)) k.calls sound.calls_rise;
        homes = all_filter (home_in k.tunnels) (home_in left) (λ c. not (c.tunnel == gone))
            (λ c stays on. without_keeps id gone c.tunnel k.tunnels sound.tunnels_rise (of_not (c.tunnel == gone) stays) on) k.calls sound.homes;
        few_tunnels = (let fewer = filter_shorter (λ (t : BookTunnel). not (t.local == gone)) k.tunnels in let few = sound.few_tunnels in omega (arith, fewer, few));
        few_calls = λ i. (let fewer = fewer_pass (λ (c : BookCall). c.tunnel == i) (λ c. not (c.tunnel == gone)) k.calls in let few = sound.few_calls i in omega (arith, fewer, few));
      }

  after_call_up : (c : BookCall) → fits k (CallUp c) ≡ true → IsSoundBook (stepped k (CallUp c))
  after_call_up c is =
      let id : BookCall → ℕ = λ x. x.local in
      let free = and_left (is_free c.local k.session_ceiling (is_some (call_at k c.local))) _ is in
      let rest = and_right (is_free c.local k.session_ceiling (is_some (call_at k c.local))) _ is in
      let home = and_left (is_some (tunnel_at k c.tunnel)) (nat_lt (length (calls_of c.tunnel k.calls)) 4096) rest in
      let room = of_below (length (calls_of c.tunnel k.calls)) 4096 (and_right (is_some (tunnel_at k c.tunnel)) (nat_lt (length (calls_of c.tunnel k.calls)) 4096) rest) in
      let range = and_left (nat_lt 0 c.local && nat_le c.local k.session_ceiling) (not (is_some (call_at k c.local))) free in
      let new = of_not (is_some (call_at k c.local)) (and_right (nat_lt 0 c.local && nat_le c.local k.session_ceiling) (not (is_some (call_at k c.local))) free) in
      let one : IsSoundCall k.session_ceiling c = record {
        some = of_below 0 c.local (and_left (nat_lt 0 c.local) (nat_le c.local k.session_ceiling) range);
        within = of_within c.local k.session_ceiling (and_right (nat_lt 0 c.local) (nat_le c.local k.session_ceiling) range);
      } in
      record {
        tunnel_ceiling = sound.tunnel_ceiling;
        session_ceiling = sound.session_ceiling;
        draw_ceiling = sound.draw_ceiling;
        tunnels = sound.tunnels;
        calls = all_insert (IsSoundCall k.session_ceiling) k.calls (place id c.local k.calls) c one sound.calls;
        tunnels_rise = sound.tunnels_rise;
        calls_rise = put_rises id c k.calls new sound.calls_rise;
        homes = all_insert (home_in k.tunnels) k.calls (place id c.local k.calls) c home sound.homes;
        few_tunnels = sound.few_tunnels;
        few_calls = λ i. one_more i room (c.tunnel == i) refl (put_passes id (λ (x : BookCall). x.tunnel == i) c k.calls);
      }
    where
      one_more : (i : ℕ) → length (calls_of c.tunnel k.calls) < 4096 → (b : Bool) → nat_eq c.tunnel i ≡ b
          → length (calls_of i (put (λ x. x.local) c k.calls)) ≡ length (cond b (c ∷ calls_of i k.calls) (calls_of i k.calls))
          → length (calls_of i (put (λ x. x.local) c k.calls)) ≤ 4096
      one_more i room true own long = (let few = subst (λ n. length (calls_of n k.calls) < 4096) (of_same c.tunnel i own) room in omega (arith, few, long))
      one_more i room false apart long = (let few = sound.few_calls i in omega (arith, few, long))

  after_call_down : (gone : ℕ) → IsSoundBook (stepped k (CallDown gone))
  after_call_down gone = record {
    tunnel_ceiling = sound.tunnel_ceiling;
    session_ceiling = sound.session_ceiling;
    draw_ceiling = sound.draw_ceiling;
    tunnels = sound.tunnels;
    calls = all_filter (IsSoundCall k.session_ceiling) (IsSoundCall k.session_ceiling) (λ c. not (c.local == gone)) (λ c stays is. is) k.calls sound.calls;
    tunnels_rise = sound.tunnels_rise;
    calls_rise = filter_rises (λ (c : BookCall). c.local) (λ c. not (c.local == gone)) k.calls sound.calls_rise;
    homes = all_filter (home_in k.tunnels) (home_in k.tunnels) (λ c. not (c.local == gone)) (λ c stays on. on) k.calls sound.homes;
    few_tunnels = sound.few_tunnels;
    few_calls = λ i. (let fewer = fewer_pass (λ (c : BookCall). c.tunnel == i) (λ c. not (c.local == gone)) k.calls in let few = sound.few_calls i in omega (arith, fewer, few));
  }

  marked_sound : (at mark : ℕ) (t : BookTunnel) → IsSoundTunnel k.tunnel_ceiling t → IsSoundTunnel k.tunnel_ceiling (mark_on at mark t)
  marked_sound at mark t is = by (t.local == at)
    where
      by : (b : Bool) → IsSoundTunnel k.tunnel_ceiling (if b then record t { mark = mark } else t)
      by true = record { some = is.some; within = is.within; remote = is.remote; window = is.window }
      by false = is

  after_mark : (at mark : ℕ) → IsSoundBook (stepped k (Mark at mark))
  after_mark at mark =
      let id : BookTunnel → ℕ = λ x. x.local in
      record {
        tunnel_ceiling = sound.tunnel_ceiling;
        session_ceiling = sound.session_ceiling;
        draw_ceiling = sound.draw_ceiling;
        tunnels = all_map (IsSoundTunnel k.tunnel_ceiling) (λ t. mark_on at mark t) (λ t is. marked_sound at mark t is) k.tunnels sound.tunnels;
        calls = sound.calls;
        tunnels_rise = marked_rises at mark k.tunnels sound.tunnels_rise;
        calls_rise = sound.calls_rise;
        homes = all_to (home_in k.tunnels) (home_in (marked at mark k.tunnels))
            (λ c on. map_keeps id (λ t. mark_on at mark t) (λ t. mark_stays at mark t) c.tunnel k.tunnels on) k.calls sound.homes;
        few_tunnels = (let long = length-map k.tunnels (λ t. mark_on at mark t) in let few = sound.few_tunnels in omega (arith, long, few));
        few_calls = sound.few_calls;
      }

  pub record_keeps : (r : Record) → fits k r ≡ true → IsSoundBook (stepped k r)
  record_keeps (Ceiling space number) is =
      after_ceiling space number (of_below (ceiling k space) number (and_left (nat_lt (ceiling k space) number) (nat_le number (last space)) is))
      (of_within number (last space) (and_right (nat_lt (ceiling k space) number) (nat_le number (last space)) is))
  record_keeps (TunnelUp t) is = after_tunnel_up t is
  record_keeps (TunnelDown gone) is = after_tunnel_down gone
  record_keeps (CallUp c) is = after_call_up c is
  record_keeps (CallDown gone) is = after_call_down gone
  record_keeps (Mark at mark) is = after_mark at mark

-- so do records that are in place one behind the other
pub records_keep : (k : Kept) (rs : List Record) → IsSoundBook k → AreInPlace k rs → IsSoundBook (book_after k rs)
records_keep k [] sound in_place = sound
records_keep k (r ∷ rs) sound in_place = records_keep (stepped k r) rs (record_keeps k sound r in_place.0) in_place.1

-- ---- calls of the role

ceiling_suits : (r : Role) (k : Kept) (space number : ℕ) → SuitsRole r k → SuitsRole r (raised space number k)
ceiling_suits r k space number suits = by (space == 1) (space == 2) (space == 3)
  where
    by : (a b c : Bool)
        → SuitsRole r (if a then record k { tunnel_ceiling = number } else if b then record k { session_ceiling = number } else if c then record k { draw_ceiling = number } else k)
    by true b c = suits
    by false true c = suits
    by false false true = suits
    by false false false = suits

record_suits : (r : Role) (k : Kept) (x : Record) → SuitsRole r k → LeavesNone r x → SuitsRole r (stepped k x)
record_suits r k (Ceiling space number) suits leaves = ceiling_suits r k space number suits
record_suits r k (TunnelUp t) suits leaves = suits
record_suits r k (TunnelDown gone) suits leaves = all_filter (RecordsNone r) (RecordsNone r) (λ c. not (c.tunnel == gone)) (λ c stays is. is) k.calls suits
record_suits r k (CallUp c) suits leaves = all_insert (RecordsNone r) k.calls (place (λ (x : BookCall). x.local) c.local k.calls) c leaves suits
record_suits r k (CallDown gone) suits leaves = all_filter (RecordsNone r) (RecordsNone r) (λ c. not (c.local == gone)) (λ c stays is. is) k.calls suits
record_suits r k (Mark at mark) suits leaves = suits

pub records_suit : (r : Role) (k : Kept) (rs : List Record) → SuitsRole r k → AllByRecursion (LeavesNone r) rs → SuitsRole r (book_after k rs)
records_suit r k [] suits leaves = suits
records_suit r k (x ∷ rs) suits leaves = records_suit r (stepped k x) rs (record_suits r k x suits leaves.0) leaves.1
