-- A record that fits keeps what a book holds together.
use Rattle.std.proofs.Common.{◌≡◌, ◌⊎◌, inl, inr, ℕ, zero, suc, ◌+◌, ◌^◌, ◌<◌, ◌≤◌, Bool, true, false, cond, ◌&&◌, ◌==◌, not, List, [], ◌∷◌, length, map, filter, take, drop, slice_get, All, Some, None, is_some, refl, sym, ◌∙◌, ap, subst, arith}
use Rattle.std.specs.Prelude.{nat_lt, nat_le, nat_eq}
use Rattle.std.specs.List.{AllByRecursion, insert}
use Rattle.std.proofs.lemmas.List.{length-map}
use Rattle.std.proofs.lemmas.List.Elements.{All-cons, All-append, All-take, All-drop}
use Rattle.std.proofs.lemmas.List.Kept.{AllPairs-cons, AllPairs-filter}
use Rattle.std.proofs.lemmas.Bool.{cases_eq, cases_lt}
use Rattle.std.proofs.lemmas.Bool.Decides.{nat_tests}
use Rattle.session_book.specs.declared.record.BookTunnel.{BookTunnel}
use Rattle.session_book.specs.declared.record.BookCall.{BookCall}
use Rattle.session_book.specs.declared.record.Record.{Record}
use Rattle.session_book.specs.declared.record.Record.TheVariants.{Ceiling, TunnelUp, TunnelDown, CallUp, CallDown, Mark}
use Rattle.session_book.specs.Books.{Held, Kept, nothing_kept, AreRising, place, with_id, entry, put, tunnel_at, call_at, calls_of, ceiling, last, raised, is_free, mark_on, marked, tunnels_without, fits, stepped}
use Rattle.session_book.specs.Spelling.{FitsTunnel, FitsCall, FitsFields, IsKeptTunnel, IsKeptCall, IsWhole, RecordsKeepItWhole}
use Rattle.session_book.proofs.Orders.{marked_rises}

pub below : (a b : ℕ) → a < b → nat_lt a b ≡ true
below a b lt = grind (arith, nat_tests)

pub not_below : (a b : ℕ) → b ≤ a → nat_lt a b ≡ false
not_below a b le = grind (arith, nat_tests)

pub same : (a b : ℕ) → a ≡ b → nat_eq a b ≡ true
same a b is = grind (arith, nat_tests)

pub of_below : (a b : ℕ) → nat_lt a b ≡ true → a < b
of_below a b is = grind (arith, nat_tests)

of_within : (a b : ℕ) → nat_le a b ≡ true → a ≤ b
of_within a b is = grind (arith, nat_tests)

of_same : (a b : ℕ) → nat_eq a b ≡ true → a ≡ b
of_same a b is = grind (arith, nat_tests)

of_other : (a b : ℕ) → nat_eq a b ≡ false → (a < b) ⊎ (b < a)
of_other a b is = elim (cases_lt a b) [
  | inl lt ↦ inl lt
  | inr le ↦ elim (cases_lt b a) [
    | inl lt ↦ inr lt
    | inr other ↦ let equal : a ≡ b = omega arith in let yes = same a b equal in absurd cc
  ]
]

pub first : (a b : Bool) → (a && b) ≡ true → a ≡ true
first true b is = refl
first false b is = absurd cc

pub second : (a b : Bool) → (a && b) ≡ true → b ≡ true
second true b is = is
second false b is = absurd cc

pub of_not : (b : Bool) → not b ≡ true → b ≡ false
of_not true is = absurd cc
of_not false is = refl

module _ {X : Type 0} where
  all_to : (P Q : X → Type 0) → ((x : X) → P x → Q x) → (xs : List X) → AllByRecursion P xs → AllByRecursion Q xs
  all_to P Q f [] all = tt
  all_to P Q f (x ∷ xs) all = (f x all.0, all_to P Q f xs all.1)

  all_map : (P Q : X → Type 0) (g : X → X) → ((x : X) → P x → Q (g x)) → (xs : List X) → AllByRecursion P xs → AllByRecursion Q (map g xs)
  all_map P Q g f [] all = tt
  all_map P Q g f (x ∷ xs) all = (f x all.0, all_map P Q g f xs all.1)

  all_filter : (P Q : X → Type 0) (q : X → Bool) → ((x : X) → q x ≡ true → P x → Q x) → (xs : List X) → AllByRecursion P xs
      → AllByRecursion Q (filter q xs)
  all_filter P Q q f [] all = tt
  all_filter P Q q f (x ∷ xs) all = by (q x) refl (all_filter P Q q f xs all.1)
    where
      by : (b : Bool) → q x ≡ b → AllByRecursion Q (filter q xs) → AllByRecursion Q (cond b (x ∷ filter q xs) (filter q xs))
      by true is more = (f x is all.0, more)
      by false is more = more

  shorter_by : (b : Bool) (x : X) (left xs : List X) → length left ≤ length xs → length (cond b (x ∷ left) left) ≤ length (x ∷ xs)
  shorter_by true x left xs le = omega arith
  shorter_by false x left xs le = omega arith

  filter_shorter : (q : X → Bool) (xs : List X) → length (filter q xs) ≤ length xs
  filter_shorter q [] = omega arith
  filter_shorter q (x ∷ xs) = shorter_by (q x) x (filter q xs) xs (filter_shorter q xs)

  fewer_by : (p : X → Bool) (a b : Bool) (x : X) (left xs : List X) → p x ≡ b → length (filter p left) ≤ length (filter p xs)
      → length (filter p (cond a (x ∷ left) left)) ≤ length (cond b (x ∷ filter p xs) (filter p xs))
  fewer_by p true true x left xs is le =
      let here : filter p (x ∷ left) ≡ x ∷ filter p left = ap (λ c. cond c (x ∷ filter p left) (filter p left)) is in
      let n = ap length here in
      omega arith
  fewer_by p true false x left xs is le =
      let here : filter p (x ∷ left) ≡ filter p left = ap (λ c. cond c (x ∷ filter p left) (filter p left)) is in
      let n = ap length here in
      omega arith
  fewer_by p false true x left xs is le = omega arith
  fewer_by p false false x left xs is le = le

  fewer_pass : (p q : X → Bool) (xs : List X) → length (filter p (filter q xs)) ≤ length (filter p xs)
  fewer_pass p q [] = omega arith
  fewer_pass p q (x ∷ xs) = fewer_by p (q x) (p x) x (filter q xs) xs refl (fewer_pass p q xs)

module _ {X : Type 0} (f : X → ℕ) where
  pub some_is : (id : ℕ) (x : X) → is_some (with_id f id (Some x)) ≡ true → f x ≡ id
  some_is id x is = of_same (f x) id (by (f x == id) is)
    where
      by : (b : Bool) → is_some (cond b (Some x) None) ≡ true → b ≡ true
      by true h = refl
      by false h = absurd cc

  some_at : (id : ℕ) (x : X) → f x ≡ id → is_some (with_id f id (Some x)) ≡ true
  some_at id x is = ap (λ b. is_some (cond b (Some x) None)) (same (f x) id is)

  none_is : (id : ℕ) (x : X) → is_some (with_id f id (Some x)) ≡ false → nat_eq (f x) id ≡ false
  none_is id x is = by (f x == id) is
    where
      by : (b : Bool) → is_some (cond b (Some x) None) ≡ false → b ≡ false
      by true h = absurd cc
      by false h = refl

  entry_cons : (id : ℕ) (x : X) (xs : List X) → entry f id (x ∷ xs) ≡ cond (nat_lt (f x) id) (entry f id xs) (with_id f id (Some x))
  entry_cons id x xs = by (nat_lt (f x) id) (place f id xs)
    where
      by : (b : Bool) (n : ℕ) → with_id f id (slice_get (x ∷ xs) (cond b (1 + n) 0)) ≡ cond b (with_id f id (slice_get xs n)) (with_id f id (Some x))
      by true n = let more : 1 + n ≡ suc n = omega arith in ap (λ m. with_id f id (slice_get (x ∷ xs) m)) more
      by false n = refl

  put_cons : (y x : X) (xs : List X) → put f y (x ∷ xs) ≡ cond (nat_lt (f x) (f y)) (x ∷ put f y xs) (y ∷ x ∷ xs)
  put_cons y x xs = by (nat_lt (f x) (f y)) (place f (f y) xs)
    where
      by : (b : Bool) (n : ℕ) → insert (x ∷ xs) (cond b (1 + n) 0) y ≡ cond b (x ∷ insert xs n y) (y ∷ x ∷ xs)
      by true n = let more : 1 + n ≡ suc n = omega arith in ap (λ m. insert (x ∷ xs) m y) more
      by false n = refl

  pub entry_later : (id : ℕ) (x : X) (xs : List X) → f x < id → entry f id (x ∷ xs) ≡ entry f id xs
  entry_later id x xs lt = entry_cons id x xs ∙ ap (λ b. cond b (entry f id xs) (with_id f id (Some x))) (below (f x) id lt)

  pub entry_here : (id : ℕ) (x : X) (xs : List X) → id ≤ f x → entry f id (x ∷ xs) ≡ with_id f id (Some x)
  entry_here id x xs le = entry_cons id x xs ∙ ap (λ b. cond b (entry f id xs) (with_id f id (Some x))) (not_below (f x) id le)

  put_later : (y x : X) (xs : List X) → f x < f y → put f y (x ∷ xs) ≡ x ∷ put f y xs
  put_later y x xs lt = put_cons y x xs ∙ ap (λ b. cond b (x ∷ put f y xs) (y ∷ x ∷ xs)) (below (f x) (f y) lt)

  put_here : (y x : X) (xs : List X) → f y ≤ f x → put f y (x ∷ xs) ≡ y ∷ x ∷ xs
  put_here y x xs le = put_cons y x xs ∙ ap (λ b. cond b (x ∷ put f y xs) (y ∷ x ∷ xs)) (not_below (f x) (f y) le)

  all_put : (P : X → Type 0) (y : X) (xs : List X) → P y → AllByRecursion P xs → AllByRecursion P (put f y xs)
  all_put P y [] py all = (py, tt)
  all_put P y (x ∷ xs) py all = elim (cases_lt (f x) (f y)) [
    | inl lt ↦ subst (AllByRecursion P) (sym (put_later y x xs lt)) (all.0, all_put P y xs py all.1)
    | inr le ↦ subst (AllByRecursion P) (sym (put_here y x xs le)) (py, all)
  ]

  length_put : (y : X) (xs : List X) → length (put f y xs) ≡ length xs + 1
  length_put y [] = refl
  length_put y (x ∷ xs) = elim (cases_lt (f x) (f y)) [
    | inl lt ↦ ap length (put_later y x xs lt) ∙ (let l = length_put y xs in omega arith)
    | inr le ↦ ap length (put_here y x xs le) ∙ omega arith
  ]

  -- as many pass as if it stood in front
  pub put_passes : (p : X → Bool) (y : X) (xs : List X) → length (filter p (put f y xs)) ≡ length (filter p (y ∷ xs))
  put_passes p y [] = refl
  put_passes p y (x ∷ xs) = elim (cases_lt (f x) (f y)) [
    | inl lt ↦ ap (λ (l : List X). length (filter p l)) (put_later y x xs lt) ∙ by (p x) (p y) (filter p (put f y xs)) (filter p xs) (put_passes p y xs)
    | inr le ↦ ap (λ (l : List X). length (filter p l)) (put_here y x xs le)
  ]
    where
      by : (a b : Bool) (g h : List X) → length g ≡ length (cond b (y ∷ h) h)
          → length (cond a (x ∷ g) g) ≡ length (cond b (y ∷ cond a (x ∷ h) h) (cond a (x ∷ h) h))
      by true true g h is = omega arith
      by true false g h is = omega arith
      by false true g h is = is
      by false false g h is = is

  put_rising : (y : X) (xs : List X) → is_some (entry f (f y) xs) ≡ false → AreRising f xs → AreRising f (put f y xs)
  put_rising y [] new up = λ i j d lt within. absurd (omega arith)
  put_rising y (x ∷ xs) new up = elim (cases_lt (f x) (f y)) [
    | inl lt ↦
        let above : All (λ z. f x < f z) xs = λ k d within. up zero (suc k) d (omega arith) (omega arith) in
        let n = place f (f y) xs in
        let all : All (λ z. f x < f z) (put f y xs) = All-append (λ z. f x < f z) (take n xs) (y ∷ drop n xs)
        (All-take (λ z. f x < f z) n xs above) (All-cons (λ z. f x < f z) y (drop n xs) lt (All-drop (λ z. f x < f z) n xs above)) in
        let more = put_rising y xs (ap is_some (sym (entry_later (f y) x xs lt)) ∙ new)
        (λ i j d less within. up (suc i) (suc j) d (omega arith) (omega arith)) in
        subst (AreRising f) (sym (put_later y x xs lt)) (AllPairs-cons (λ a b. f a < f b) x (put f y xs) all more)
    | inr le ↦
        let other = none_is (f y) x (ap is_some (sym (entry_here (f y) x xs le)) ∙ new) in
        let lt : f y < f x = elim (of_other (f x) (f y) other) [
          | inl less ↦ absurd (omega arith)
          | inr more ↦ more
        ] in
        let above : All (λ z. f y < f z) xs = λ k d within. (let h = up zero (suc k) d (omega arith) (omega arith) in omega arith) in
        subst (AreRising f) (sym (put_here y x xs le)) (AllPairs-cons (λ a b. f a < f b) y (x ∷ xs) (All-cons (λ z. f y < f z) x xs lt above) up)
  ]

  -- who is there stays there
  put_keeps : (id : ℕ) (y : X) (xs : List X) → is_some (entry f id xs) ≡ true → is_some (entry f id (put f y xs)) ≡ true
  put_keeps id y [] is = absurd cc
  put_keeps id y (x ∷ xs) is = elim (cases_lt (f x) (f y)) [
    | inl lt ↦ ap (λ (l : List X). is_some (entry f id l)) (put_later y x xs lt) ∙ elim (cases_lt (f x) id) [
      | inl near ↦ ap is_some (entry_later id x (put f y xs) near) ∙ put_keeps id y xs (ap is_some (sym (entry_later id x xs near)) ∙ is)
      | inr far ↦ ap is_some (entry_here id x (put f y xs) far ∙ sym (entry_here id x xs far)) ∙ is
    ]
    | inr le ↦ ap (λ (l : List X). is_some (entry f id l)) (put_here y x xs le) ∙ elim (cases_lt (f y) id) [
      | inl near ↦ ap is_some (entry_later id y (x ∷ xs) near) ∙ is
      | inr far ↦
          let at : f x ≡ id = some_is id x (ap is_some (sym (entry_here id x xs (omega arith))) ∙ is) in
          ap is_some (entry_here id y (x ∷ xs) far) ∙ some_at id y (omega arith)
    ]
  ]

  without_keeps : (gone id : ℕ) (xs : List X) → nat_eq id gone ≡ false → is_some (entry f id xs) ≡ true
      → is_some (entry f id (filter (λ x. not (f x == gone)) xs)) ≡ true
  without_keeps gone id [] other is = absurd cc
  without_keeps gone id (x ∷ xs) other is = elim (cases_eq (f x) gone) [
    | inl leaves ↦
        let out : not (f x == gone) ≡ false = ap not (same (f x) gone leaves) in
        ap (λ b. is_some (entry f id (cond b (x ∷ filter (λ z. not (f z == gone)) xs) (filter (λ z. not (f z == gone)) xs)))) out ∙ elim (cases_lt (f x) id) [
          | inl near ↦ without_keeps gone id xs other (ap is_some (sym (entry_later id x xs near)) ∙ is)
          | inr far ↦
              let at : f x ≡ id = some_is id x (ap is_some (sym (entry_here id x xs far)) ∙ is) in
              let yes = same id gone (omega arith) in
              absurd cc
        ]
    | inr stays ↦
        let no : nat_eq (f x) gone ≡ false = grind (arith, nat_tests) in
        let out : not (f x == gone) ≡ true = ap not no in
        let left = filter (λ z. not (f z == gone)) xs in
        ap (λ b. is_some (entry f id (cond b (x ∷ left) left))) out ∙ elim (cases_lt (f x) id) [
          | inl near ↦ ap is_some (entry_later id x left near) ∙ without_keeps gone id xs other (ap is_some (sym (entry_later id x xs near)) ∙ is)
          | inr far ↦ ap is_some (entry_here id x left far ∙ sym (entry_here id x xs far)) ∙ is
        ]
  ]

  -- a change that leaves the ids
  map_keeps : (g : X → X) → ((x : X) → f (g x) ≡ f x) → (id : ℕ) (xs : List X) → is_some (entry f id xs) ≡ true → is_some (entry f id (map g xs)) ≡ true
  map_keeps g stays id [] is = absurd cc
  map_keeps g stays id (x ∷ xs) is =
      let at = stays x in
      elim (cases_lt (f x) id) [
        | inl near ↦
            ap is_some (entry_later id (g x) (map g xs) (omega arith)) ∙ map_keeps g stays id xs (ap is_some (sym (entry_later id x xs near)) ∙ is)
        | inr far ↦
            let own : f x ≡ id = some_is id x (ap is_some (sym (entry_here id x xs far)) ∙ is) in
            ap is_some (entry_here id (g x) (map g xs) (omega arith)) ∙ some_at id (g x) (omega arith)
      ]

-- ---- a record of each kind

module _ (k : Kept) (whole : IsWhole k) where
  after_tunnel_ceiling : (number : ℕ) → k.tunnel_ceiling < number → number ≤ 65535 → IsWhole (record k { tunnel_ceiling = number })
  after_tunnel_ceiling number above most = record {
    tunnel_ceiling = most;
    session_ceiling = whole.session_ceiling;
    draw_ceiling = whole.draw_ceiling;
    tunnels = all_to (IsKeptTunnel k.tunnel_ceiling) (IsKeptTunnel number) (λ t is. record {
      drawn = is.drawn;
      within = let w = is.within in omega arith;
      remote = is.remote;
      window = is.window;
      fits = is.fits;
    }) k.tunnels whole.tunnels;
    tunnels_in_order = whole.tunnels_in_order;
    few_tunnels = whole.few_tunnels;
    calls = whole.calls;
    calls_in_order = whole.calls_in_order;
    few_calls = whole.few_calls;
  }

  after_session_ceiling : (number : ℕ) → k.session_ceiling < number → number ≤ 65534 → IsWhole (record k { session_ceiling = number })
  after_session_ceiling number above most = record {
    tunnel_ceiling = whole.tunnel_ceiling;
    session_ceiling = most;
    draw_ceiling = whole.draw_ceiling;
    tunnels = whole.tunnels;
    tunnels_in_order = whole.tunnels_in_order;
    few_tunnels = whole.few_tunnels;
    calls = all_to (IsKeptCall k.session_ceiling k.tunnels) (IsKeptCall number k.tunnels) (λ c is. record {
      drawn = is.drawn;
      within = let w = is.within in omega arith;
      over = is.over;
      fits = is.fits;
    }) k.calls whole.calls;
    calls_in_order = whole.calls_in_order;
    few_calls = whole.few_calls;
  }

  after_draw_ceiling : (number : ℕ) → number ≤ 4294967295 → IsWhole (record k { draw_ceiling = number })
  after_draw_ceiling number most = record {
    tunnel_ceiling = whole.tunnel_ceiling;
    session_ceiling = whole.session_ceiling;
    draw_ceiling = most;
    tunnels = whole.tunnels;
    tunnels_in_order = whole.tunnels_in_order;
    few_tunnels = whole.few_tunnels;
    calls = whole.calls;
    calls_in_order = whole.calls_in_order;
    few_calls = whole.few_calls;
  }

  pub after_ceiling : (space number : ℕ) → ceiling k space < number → number ≤ last space → IsWhole (raised space number k)
  after_ceiling space number above most = elim (cases_eq space 1) [
    | inl one ↦
        let yes : nat_eq space 1 ≡ true = same space 1 one in
        let up : k.tunnel_ceiling < number = subst (λ (n : ℕ). ceiling k n < number) one above in
        let le : number ≤ 65535 = subst (λ (n : ℕ). number ≤ last n) one most in
        subst (λ (n : ℕ). IsWhole (raised n number k)) (sym one) (after_tunnel_ceiling number up le)
    | inr not_one ↦ elim (cases_eq space 2) [
      | inl two ↦
          let up : k.session_ceiling < number = subst (λ (n : ℕ). ceiling k n < number) two above in
          let le : number ≤ 65534 = subst (λ (n : ℕ). number ≤ last n) two most in
          subst (λ (n : ℕ). IsWhole (raised n number k)) (sym two) (after_session_ceiling number up le)
      | inr not_two ↦ elim (cases_eq space 3) [
        | inl three ↦
            let le : number ≤ 4294967295 = subst (λ (n : ℕ). number ≤ last n) three most in
            subst (λ (n : ℕ). IsWhole (raised n number k)) (sym three) (after_draw_ceiling number le)
        | inr not_three ↦
            let a : nat_eq space 1 ≡ false = grind (arith, nat_tests) in
            let b : nat_eq space 2 ≡ false = grind (arith, nat_tests) in
            let c : nat_eq space 3 ≡ false = grind (arith, nat_tests) in
            let none : raised space number k ≡ k =
            ap (λ x. cond x (record k { tunnel_ceiling = number }) (cond (nat_eq space 2) (record k { session_ceiling = number }) (cond (nat_eq space 3) (record k { draw_ceiling = number }) k))) a
            ∙ ap (λ x. cond x (record k { session_ceiling = number }) (cond (nat_eq space 3) (record k { draw_ceiling = number }) k)) b
            ∙ ap (λ x. cond x (record k { draw_ceiling = number }) k) c in
            subst IsWhole (sym none) whole
      ]
    ]
  ]

  after_tunnel_up : (t : BookTunnel) → FitsTunnel t → fits k (TunnelUp t) ≡ true → IsWhole (stepped k (TunnelUp t))
  after_tunnel_up t bytes is =
      let free = first (is_free t.local k.tunnel_ceiling (is_some (tunnel_at k t.local))) (nat_lt (length k.tunnels) 1024 && (nat_lt 0 t.remote && nat_lt 0 t.window)) is in
      let rest = second (is_free t.local k.tunnel_ceiling (is_some (tunnel_at k t.local))) (nat_lt (length k.tunnels) 1024 && (nat_lt 0 t.remote && nat_lt 0 t.window)) is in
      let few = of_below (length k.tunnels) 1024 (first (nat_lt (length k.tunnels) 1024) (nat_lt 0 t.remote && nat_lt 0 t.window) rest) in
      let both = second (nat_lt (length k.tunnels) 1024) (nat_lt 0 t.remote && nat_lt 0 t.window) rest in
      let range = first (nat_lt 0 t.local && nat_le t.local k.tunnel_ceiling) (not (is_some (tunnel_at k t.local))) free in
      let new = of_not (is_some (tunnel_at k t.local)) (second (nat_lt 0 t.local && nat_le t.local k.tunnel_ceiling) (not (is_some (tunnel_at k t.local))) free) in
      let kept : IsKeptTunnel k.tunnel_ceiling t = record {
        drawn = of_below 0 t.local (first (nat_lt 0 t.local) (nat_le t.local k.tunnel_ceiling) range);
        within = of_within t.local k.tunnel_ceiling (second (nat_lt 0 t.local) (nat_le t.local k.tunnel_ceiling) range);
        remote = of_below 0 t.remote (first (nat_lt 0 t.remote) (nat_lt 0 t.window) both);
        window = of_below 0 t.window (second (nat_lt 0 t.remote) (nat_lt 0 t.window) both);
        fits = bytes;
      } in
      let id : BookTunnel → ℕ = λ x. x.local in
      record {
        tunnel_ceiling = whole.tunnel_ceiling;
        session_ceiling = whole.session_ceiling;
        draw_ceiling = whole.draw_ceiling;
        tunnels = all_put id (IsKeptTunnel k.tunnel_ceiling) t k.tunnels kept whole.tunnels;
        tunnels_in_order = put_rising id t k.tunnels new whole.tunnels_in_order;
        few_tunnels = let l = length_put id t k.tunnels in omega arith;
        calls = all_to (IsKeptCall k.session_ceiling k.tunnels) (IsKeptCall k.session_ceiling (put id t k.tunnels)) (λ c on. record {
          drawn = on.drawn;
          within = on.within;
          over = put_keeps id c.tunnel t k.tunnels on.over;
          fits = on.fits;
        }) k.calls whole.calls;
        calls_in_order = whole.calls_in_order;
        few_calls = whole.few_calls;
      }

  after_tunnel_down : (gone : ℕ) → IsWhole (stepped k (TunnelDown gone))
  after_tunnel_down gone =
      let id : BookTunnel → ℕ = λ x. x.local in
      record {
        tunnel_ceiling = whole.tunnel_ceiling;
        session_ceiling = whole.session_ceiling;
        draw_ceiling = whole.draw_ceiling;
        tunnels = all_filter (IsKeptTunnel k.tunnel_ceiling) (IsKeptTunnel k.tunnel_ceiling) (λ t. not (t.local == gone)) (λ t stays is. is) k.tunnels whole.tunnels;
        tunnels_in_order = AllPairs-filter (λ x y. x.local < y.local) (λ t. not (t.local == gone)) k.tunnels whole.tunnels_in_order;
        few_tunnels = let l = filter_shorter (λ (t : BookTunnel). not (t.local == gone)) k.tunnels in let m = whole.few_tunnels in omega arith;
        calls = all_filter (IsKeptCall k.session_ceiling k.tunnels) (IsKeptCall k.session_ceiling (tunnels_without gone k.tunnels)) (λ c. not (c.tunnel == gone)) (λ c stays on. record {
          drawn = on.drawn;
          within = on.within;
          over = without_keeps id gone c.tunnel k.tunnels (of_not (c.tunnel == gone) stays) on.over;
          fits = on.fits;
        }) k.calls whole.calls;
        calls_in_order = AllPairs-filter (λ x y. x.local < y.local) (λ c. not (c.tunnel == gone)) k.calls whole.calls_in_order;
        few_calls = λ tunnel. (let l = fewer_pass (λ (c : BookCall). c.tunnel == tunnel) (λ c. not (c.tunnel == gone)) k.calls in let m = whole.few_calls tunnel in omega arith);
      }

  after_call_up : (c : BookCall) → FitsCall c → fits k (CallUp c) ≡ true → IsWhole (stepped k (CallUp c))
  after_call_up c bytes is =
      let over_one = is_some (tunnel_at k c.tunnel) in
      let room = nat_lt (length (calls_of c.tunnel k.calls)) 4096 in
      let free = first (is_free c.local k.session_ceiling (is_some (call_at k c.local))) (over_one && room) is in
      let rest = second (is_free c.local k.session_ceiling (is_some (call_at k c.local))) (over_one && room) is in
      let few = of_below (length (calls_of c.tunnel k.calls)) 4096 (second over_one room rest) in
      let range = first (nat_lt 0 c.local && nat_le c.local k.session_ceiling) (not (is_some (call_at k c.local))) free in
      let new = of_not (is_some (call_at k c.local)) (second (nat_lt 0 c.local && nat_le c.local k.session_ceiling) (not (is_some (call_at k c.local))) free) in
      let kept : IsKeptCall k.session_ceiling k.tunnels c = record {
        drawn = of_below 0 c.local (first (nat_lt 0 c.local) (nat_le c.local k.session_ceiling) range);
        within = of_within c.local k.session_ceiling (second (nat_lt 0 c.local) (nat_le c.local k.session_ceiling) range);
        over = first over_one room rest;
        fits = bytes;
      } in
      let id : BookCall → ℕ = λ x. x.local in
      record {
        tunnel_ceiling = whole.tunnel_ceiling;
        session_ceiling = whole.session_ceiling;
        draw_ceiling = whole.draw_ceiling;
        tunnels = whole.tunnels;
        tunnels_in_order = whole.tunnels_in_order;
        few_tunnels = whole.few_tunnels;
        calls = all_put id (IsKeptCall k.session_ceiling k.tunnels) c k.calls kept whole.calls;
        calls_in_order = put_rising id c k.calls new whole.calls_in_order;
        few_calls = λ tunnel. elim (cases_eq c.tunnel tunnel) [
          | inl own ↦
              let passes = put_passes id (λ (x : BookCall). x.tunnel == tunnel) c k.calls in
              let more : filter (λ x. x.tunnel == tunnel) (c ∷ k.calls) ≡ c ∷ calls_of tunnel k.calls =
              ap (λ b. cond b (c ∷ calls_of tunnel k.calls) (calls_of tunnel k.calls)) (same c.tunnel tunnel own) in
              let n = ap length more in
              let room_here : length (calls_of tunnel k.calls) < 4096 = subst (λ (t : ℕ). length (calls_of t k.calls) < 4096) own few in
              omega arith
          | inr other ↦
              let passes = put_passes id (λ (x : BookCall). x.tunnel == tunnel) c k.calls in
              let no : nat_eq c.tunnel tunnel ≡ false = grind (arith, nat_tests) in
              let less : filter (λ x. x.tunnel == tunnel) (c ∷ k.calls) ≡ calls_of tunnel k.calls =
              ap (λ b. cond b (c ∷ calls_of tunnel k.calls) (calls_of tunnel k.calls)) no in
              let n = ap length less in
              let m = whole.few_calls tunnel in
              omega arith
        ];
      }

  after_call_down : (gone : ℕ) → IsWhole (stepped k (CallDown gone))
  after_call_down gone = record {
    tunnel_ceiling = whole.tunnel_ceiling;
    session_ceiling = whole.session_ceiling;
    draw_ceiling = whole.draw_ceiling;
    tunnels = whole.tunnels;
    tunnels_in_order = whole.tunnels_in_order;
    few_tunnels = whole.few_tunnels;
    calls = all_filter (IsKeptCall k.session_ceiling k.tunnels) (IsKeptCall k.session_ceiling k.tunnels) (λ c. not (c.local == gone)) (λ c stays on. on) k.calls whole.calls;
    calls_in_order = AllPairs-filter (λ x y. x.local < y.local) (λ c. not (c.local == gone)) k.calls whole.calls_in_order;
    few_calls = λ tunnel. (let l = fewer_pass (λ (c : BookCall). c.tunnel == tunnel) (λ c. not (c.local == gone)) k.calls in let m = whole.few_calls tunnel in omega arith);
  }

  -- a mark leaves all else of its tunnel
  kept_marked : (id mark : ℕ) → mark < 2 ^ 32 → (t : BookTunnel) → IsKeptTunnel k.tunnel_ceiling t → IsKeptTunnel k.tunnel_ceiling (mark_on id mark t)
  kept_marked id mark small t is = by (t.local == id)
    where
      by : (b : Bool) → IsKeptTunnel k.tunnel_ceiling (cond b (record t { mark = mark }) t)
      by true =
          let fit = is.fits in
          record {
            drawn = is.drawn;
            within = is.within;
            remote = is.remote;
            window = is.window;
            fits = record { local = fit.local; remote = fit.remote; peer = fit.peer; window = fit.window; flags = fit.flags; mark = small };
          }
      by false = is

  id_stays : (id mark : ℕ) (t : BookTunnel) → (mark_on id mark t).local ≡ t.local
  id_stays id mark t = by (t.local == id)
    where
      by : (b : Bool) → (cond b (record t { mark = mark }) t).local ≡ t.local
      by true = refl
      by false = refl

  after_mark : (id mark : ℕ) → mark < 2 ^ 32 → IsWhole (stepped k (Mark id mark))
  after_mark id mark small = record {
    tunnel_ceiling = whole.tunnel_ceiling;
    session_ceiling = whole.session_ceiling;
    draw_ceiling = whole.draw_ceiling;
    tunnels = all_map (IsKeptTunnel k.tunnel_ceiling) (IsKeptTunnel k.tunnel_ceiling) (λ t. mark_on id mark t) (kept_marked id mark small) k.tunnels whole.tunnels;
    tunnels_in_order = marked_rises id mark k.tunnels whole.tunnels_in_order;
    few_tunnels = let l = length-map k.tunnels (λ t. mark_on id mark t) in let m = whole.few_tunnels in omega arith;
    calls = all_to (IsKeptCall k.session_ceiling k.tunnels) (IsKeptCall k.session_ceiling (marked id mark k.tunnels)) (λ c on. record {
      drawn = on.drawn;
      within = on.within;
      over = map_keeps (λ (t : BookTunnel). t.local) (λ t. mark_on id mark t) (id_stays id mark) c.tunnel k.tunnels on.over;
      fits = on.fits;
    }) k.calls whole.calls;
    calls_in_order = whole.calls_in_order;
    few_calls = whole.few_calls;
  }

pub whole_stepped : (k : Kept) (r : Record) → IsWhole k → FitsFields r → fits k r ≡ true → IsWhole (stepped k r)
whole_stepped k (Ceiling space number) whole bytes is =
    after_ceiling k whole space number (of_below (ceiling k space) number (first (nat_lt (ceiling k space) number) (nat_le number (last space)) is))
    (of_within number (last space) (second (nat_lt (ceiling k space) number) (nat_le number (last space)) is))
whole_stepped k (TunnelUp t) whole bytes is = after_tunnel_up k whole t bytes is
whole_stepped k (TunnelDown id) whole bytes is = after_tunnel_down k whole id
whole_stepped k (CallUp c) whole bytes is = after_call_up k whole c bytes is
whole_stepped k (CallDown id) whole bytes is = after_call_down k whole id
whole_stepped k (Mark id mark) whole bytes is = after_mark k whole id mark bytes.1

pub nothing_is_whole : IsWhole nothing_kept
nothing_is_whole = record {
  tunnel_ceiling = omega arith;
  session_ceiling = omega arith;
  draw_ceiling = omega arith;
  tunnels = tt;
  tunnels_in_order = λ i j d lt within. absurd (omega arith);
  few_tunnels = omega arith;
  calls = tt;
  calls_in_order = λ i j d lt within. absurd (omega arith);
  few_calls = λ tunnel. omega arith;
}

pub records_keep_it_whole : RecordsKeepItWhole
records_keep_it_whole = (nothing_is_whole, whole_stepped)

-- after a record that fits
pub whole_after : (h : Held) (kept : Kept) (next r : Record) (j : Kept) → kept ≡ h.kept → next ≡ r → IsWhole kept → FitsFields next → fits h.kept next ≡ true
    → stepped kept r ≡ j → IsWhole j
whole_after h kept next r j here is whole bytes fit after =
    subst IsWhole (ap (stepped kept) is ∙ after) (whole_stepped kept next whole bytes (ap (λ (k : Kept). fits k next) here ∙ fit))
