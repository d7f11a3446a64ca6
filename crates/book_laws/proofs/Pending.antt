-- A book in a start: the tunnels of which it isn't decided yet whether they come back, and the rest of the book.
use Rattle.std.proofs.Common.{◌≡◌, inl, inr, ⊎_elim, ℕ, ◌<◌, ◌≤◌, Bool, true, false, cond, ◌==◌, ◌&&◌, not, List, [], ◌∷◌, filter, Option, Some, None, refl, sym, ◌∙◌, ap, subst, arith}
use Rattle.std.specs.Prelude.{◌||◌, nat_eq}
use Rattle.std.specs.List.{AllByRecursion}
use Rattle.std.proofs.lemmas.Bool.{true≢false, cases_lt}
use Rattle.std.proofs.lemmas.Option.{none-some}
use Rattle.session_book.specs.declared.record.BookTunnel.{BookTunnel}
use Rattle.session_book.specs.declared.record.BookCall.{BookCall}
use Rattle.session_book.specs.declared.record.Record.TheVariants.{TunnelDown}
use Rattle.session_book.specs.Books.{Kept, AreRising, entry, tunnel_at, call_at, stepped}
use Rattle.step_laws.specs.Letters.{Among}
use Rattle.book_laws.proofs.Lists.{same, other, rises_from, rest_rises, entry_later, entry_here, with_own, passing, entry_filter, all_to}
use Rattle.book_laws.proofs.Views.{id_of, session_of}
use Rattle.book_laws.proofs.Returning.{CallsRise}

-- ---- lists

module _ {X : Type 0} where
  pub filter_both : (p q r : X → Bool) → ((x : X) → (q x && p x) ≡ r x) → (xs : List X) → filter p (filter q xs) ≡ filter r xs
  filter_both p q r is [] = refl
  filter_both p q r is (x ∷ xs) = by (q x) (r x) (is x) (filter_both p q r is xs)
    where
      by : (b c : Bool) → (b && p x) ≡ c → filter p (filter q xs) ≡ filter r xs
          → filter p (cond b (x ∷ filter q xs) (filter q xs)) ≡ cond c (x ∷ filter r xs) (filter r xs)
      by true c so later = ap (λ d. cond d (x ∷ filter p (filter q xs)) (filter p (filter q xs))) so ∙ ap (λ l. cond c (x ∷ l) l) later
      by false c so later = later ∙ ap (λ d. cond d (x ∷ filter r xs) (filter r xs)) so

  pub filter_all : (p : X → Bool) → ((x : X) → p x ≡ true) → (xs : List X) → filter p xs ≡ xs
  filter_all p so [] = refl
  filter_all p so (x ∷ xs) = ap (λ b. cond b (x ∷ filter p xs) (filter p xs)) (so x) ∙ ap (λ l. x ∷ l) (filter_all p so xs)

  pub filter_alike : (p q : X → Bool) → ((x : X) → p x ≡ q x) → (xs : List X) → filter p xs ≡ filter q xs
  filter_alike p q so [] = refl
  filter_alike p q so (x ∷ xs) = ap (λ b. cond b (x ∷ filter p xs) (filter p xs)) (so x) ∙ ap (λ l. cond (q x) (x ∷ l) l) (filter_alike p q so xs)

  pub among_filter : (p : X → Bool) (xs : List X) (x : X) → Among x (filter p xs) → Among x xs × (p x ≡ true)
  among_filter p [] x a = absurd a
  among_filter p (y ∷ xs) x a = by (p y) refl a (among_filter p xs x)
    where
      by : (b : Bool) → p y ≡ b → Among x (cond b (y ∷ filter p xs) (filter p xs)) → (Among x (filter p xs) → Among x xs × (p x ≡ true))
          → Among x (y ∷ xs) × (p x ≡ true)
      by true is a later = ⊎_elim
          (λ (one : y ≡ x). (inl one, ap p (sym one) ∙ is))
          (λ rest. let l = later rest in (inr l.0, l.1))
          a
      by false is a later = let l = later a in (inr l.0, l.1)

  pub filter_among : (p : X → Bool) (xs : List X) (x : X) → Among x xs → p x ≡ true → Among x (filter p xs)
  filter_among p [] x a so = absurd a
  filter_among p (y ∷ xs) x a so = ⊎_elim
      (λ (one : y ≡ x). subst (λ b. Among x (cond b (y ∷ filter p xs) (filter p xs))) (sym (ap p one ∙ so)) (inl one))
      (λ rest. by (p y) (filter_among p xs x rest so))
      a
    where
      by : (b : Bool) → Among x (filter p xs) → Among x (cond b (y ∷ filter p xs) (filter p xs))
      by true later = inr later
      by false later = later

  pub all_among : (P : X → Type 0) (xs : List X) (x : X) → AllByRecursion P xs → Among x xs → P x
  all_among P [] x h a = absurd a
  all_among P (y ∷ xs) x h a = ⊎_elim (λ (one : y ≡ x). subst P one h.0) (λ later. all_among P xs x h.1 later) a

  pub each_among : (P : X → Type 0) (xs : List X) → ((x : X) → Among x xs → P x) → AllByRecursion P xs
  each_among P [] h = tt
  each_among P (x ∷ xs) h = (h x (inl refl), each_among P xs (λ y a. h y (inr a)))

module _ {X : Type 0} (f : X → ℕ) where
  -- what is found is among them, and each is found where they rise
  pub entry_among : (id : ℕ) (xs : List X) (x : X) → entry f id xs ≡ Some x → Among x xs
  entry_among id [] x is = absurd (none-some x is)
  entry_among id (y ∷ xs) x is = elim (cases_lt (f y) id) [
    | inl near ↦ inr (entry_among id xs x (sym (entry_later f id y xs near) ∙ is))
    | inr far ↦ inl (here (nat_eq (f y) id) (sym (entry_here f id y xs far) ∙ is))
  ]
    where
      here : (b : Bool) → cond b (Some y) None ≡ Some x → y ≡ x
      here true h = cc
      here false h = absurd (none-some x h)

  pub among_entry : (xs : List X) → AreRising f xs → (x : X) → Among x xs → entry f (f x) xs ≡ Some x
  among_entry [] up x a = absurd a
  among_entry (y ∷ xs) up x a = ⊎_elim
      (λ (one : y ≡ x). subst (λ (z : X). entry f (f z) (y ∷ xs) ≡ Some z) one (entry_here f (f y) y xs (omega arith) ∙ with_own f (f y) y refl))
      (λ rest. entry_later f (f x) y xs (all_among (λ z. f y < f z) xs x (rises_from f y xs up) rest) ∙ among_entry xs (rest_rises f y xs up) x rest)
      a

-- calls that rise, from one on
pub calls_rise : (n : ℕ) (cs : List BookCall) → AllByRecursion (λ (c : BookCall). n < c.local) cs → AreRising session_of cs → CallsRise n cs
calls_rise n [] over up = tt
calls_rise n (c ∷ cs) over up = (over.0, calls_rise c.local cs (rises_from session_of c cs up) (rest_rises session_of c cs up))

-- ---- tunnels that wait

abbrev pub waits : List BookTunnel → ℕ → Bool
waits [] i = false
waits (b ∷ bs) i = (i == b.local) || waits bs i

pub waits_first : (b : BookTunnel) (bs : List BookTunnel) → waits (b ∷ bs) b.local ≡ true
waits_first b bs = ap (λ q. q || waits bs b.local) (same b.local b.local refl)

pub waits_later : (b : BookTunnel) (bs : List BookTunnel) (i : ℕ) → (i ≡ b.local → ⊥) → waits (b ∷ bs) i ≡ waits bs i
waits_later b bs i apart = ap (λ q. q || waits bs i) (other i b.local apart)

-- ids above one
abbrev pub TunnelsRise : ℕ → List BookTunnel → Type 0
TunnelsRise n [] = Unit {0}
TunnelsRise n (b ∷ bs) = (n < b.local) × TunnelsRise b.local bs

pub tunnels_rise : (n : ℕ) (bs : List BookTunnel) → AllByRecursion (λ (b : BookTunnel). n < b.local) bs → AreRising id_of bs → TunnelsRise n bs
tunnels_rise n [] over up = tt
tunnels_rise n (b ∷ bs) over up = (over.0, tunnels_rise b.local bs (rises_from id_of b bs up) (rest_rises id_of b bs up))

pub none_waits : (n i : ℕ) (bs : List BookTunnel) → TunnelsRise n bs → i ≤ n → waits bs i ≡ false
none_waits n i [] rise low = refl
none_waits n i (b ∷ bs) rise low =
    waits_later b bs i (λ own. let above = rise.0 in omega (arith, above, own, low)) ∙ none_waits b.local i bs rise.1 (let above = rise.0 in omega (arith, above, low))

-- those behind the first have other ids
pub other_ids : (n : ℕ) (bs : List BookTunnel) → TunnelsRise n bs → AllByRecursion (λ (b : BookTunnel). b.local ≡ n → ⊥) bs
other_ids n [] rise = tt
other_ids n (b ∷ bs) rise = (
  (λ own. let above = rise.0 in omega (arith, above, own)),
  all_to (λ (d : BookTunnel). b.local < d.local) (λ (d : BookTunnel). d.local ≡ n → ⊥)
      (λ d over own. let above = rise.0 in omega (arith, above, over, own)) bs (over_first b.local bs rise.1),
)
  where
    over_first : (m : ℕ) (ds : List BookTunnel) → TunnelsRise m ds → AllByRecursion (λ (d : BookTunnel). m < d.local) ds
    over_first m [] up = tt
    over_first m (d ∷ ds) up =
        (up.0, all_to (λ (x : BookTunnel). d.local < x.local) (λ (x : BookTunnel). m < x.local) (λ x over. let above = up.0 in omega (arith, above, over)) ds (over_first d.local ds up.1))

-- ---- the book without those that wait

abbrev pub stays_tunnel : List BookTunnel → BookTunnel → Bool
stays_tunnel bs t = not (waits bs t.local)

abbrev pub stays_call : List BookTunnel → BookCall → Bool
stays_call bs c = not (waits bs c.tunnel)

abbrev pub decided : List BookTunnel → Kept → Kept
decided bs k = record k { tunnels = filter (stays_tunnel bs) k.tunnels; calls = filter (stays_call bs) k.calls }

-- where none waits, it is the book
pub all_decided : (k : Kept) → decided [] k ≡ k
all_decided k =
    let ts = filter_all (stays_tunnel []) (λ t. refl) k.tunnels in
    let cs = filter_all (stays_call []) (λ c. refl) k.calls in
    rw (ts, cs) refl

both_tests : (a w : Bool) → (not a && not w) ≡ not (a || w)
both_tests true w = refl
both_tests false w = refl

-- where one that waits goes, the rest is as it was
pub forgotten_decided : (b : BookTunnel) (bs : List BookTunnel) (j : Kept) → decided bs (stepped j (TunnelDown b.local)) ≡ decided (b ∷ bs) j
forgotten_decided b bs j =
    let ts = filter_both (stays_tunnel bs) (λ t. not (t.local == b.local)) (stays_tunnel (b ∷ bs)) (λ t. both_tests (t.local == b.local) (waits bs t.local)) j.tunnels in
    let cs = filter_both (stays_call bs) (λ c. not (c.tunnel == b.local)) (stays_call (b ∷ bs)) (λ c. both_tests (c.tunnel == b.local) (waits bs c.tunnel)) j.calls in
    rw (ts, cs) refl

module _ (bs : List BookTunnel) (j : Kept) (tunnels_up : AreRising id_of j.tunnels) (calls_up : AreRising session_of j.calls) where
  pub decided_tunnel : (i : ℕ) → tunnel_at (decided bs j) i ≡ passing id_of (stays_tunnel bs) (tunnel_at j i)
  decided_tunnel i = entry_filter id_of (stays_tunnel bs) i j.tunnels tunnels_up

  pub decided_call : (s : ℕ) → call_at (decided bs j) s ≡ passing session_of (stays_call bs) (call_at j s)
  decided_call s = entry_filter session_of (stays_call bs) s j.calls calls_up

-- what passes
pub passes : {X : Type 0} (f : X → ℕ) (p : X → Bool) (o : Option X) (x : X) → passing f p o ≡ Some x → (o ≡ Some x) × (p x ≡ true)
passes f p None x is = absurd (none-some x is)
passes f p (Some y) x is = by (p y) refl is
  where
    by : (b : Bool) → p y ≡ b → cond b (Some y) None ≡ Some x → (Some y ≡ Some x) × (p x ≡ true)
    by true so h = let one : y ≡ x = cc in (h, ap p (sym one) ∙ so)
    by false so h = absurd (none-some x h)

pub passed : {X : Type 0} (f : X → ℕ) (p : X → Bool) (o : Option X) (x : X) → o ≡ Some x → p x ≡ true → passing f p o ≡ Some x
passed f p o x is so = ap (passing f p) is ∙ ap (λ b. cond b (Some x) None) so

pub not_waiting : (b : Bool) → not b ≡ true → b ≡ false
not_waiting true h = absurd (true≢false (sym h))
not_waiting false h = refl
