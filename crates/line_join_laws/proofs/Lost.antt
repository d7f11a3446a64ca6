-- The tunnels of a book that another one has no more, by their names in the machine.
use Rattle.std.proofs.Common.{◌≡◌, ℕ, Bool, true, false, List, [], ◌∷◌, refl, ap, ◌∙◌, Option, Some, None, eq-eqb, ne_eqb}
use Rattle.std.specs.Prelude.{is_some, ◌==◌, ◌||◌}
use Rattle.std.specs.List.{AllByRecursion}
use Rattle.session_book.specs.declared.record.BookTunnel.{BookTunnel}
use Rattle.session_book.specs.Books.{Kept, tunnel_at}
use Rattle.epoch_machine.specs.Worlds as machine
use Rattle.epoch_machine.specs.Tunnels.{Gone}
use Rattle.session_laws.specs.Names.{name}
use Rattle.line_join_laws.proofs.Cleared.{is_in, AreClearable, turned}

-- ---- lists of names

swapped : (a b c : Bool) → (b || (a || c)) ≡ ((a || b) || c)
swapped true true c = refl
swapped true false c = refl
swapped false true c = refl
swapped false false c = refl

or_none : (b : Bool) → (b || false) ≡ b
or_none true = refl
or_none false = refl

in_turned : (xs ys : List ℕ) (y : ℕ) → is_in (turned xs ys) y ≡ (is_in xs y || is_in ys y)
in_turned [] ys y = refl
in_turned (x ∷ xs) ys y = in_turned xs (x ∷ ys) y ∙ swapped (y == x) (is_in xs y) (is_in ys y)

pub turned_in : (xs : List ℕ) (y : ℕ) → is_in (turned xs []) y ≡ is_in xs y
turned_in xs y = in_turned xs [] y ∙ or_none (is_in xs y)

-- ---- those that are lost

abbrev with_one : Bool → ℕ → List ℕ → List ℕ
with_one true x xs = xs
with_one false x xs = x ∷ xs

module _ (n : ℕ) (j : Kept) where
  abbrev pub lost : List BookTunnel → List ℕ
  lost [] = []
  lost (t ∷ ts) = with_one (is_some (tunnel_at j t.local)) (name n t.local) (lost ts)

  more_in : (b : Bool) (x : ℕ) (xs : List ℕ) (y : ℕ) → is_in xs y ≡ true → is_in (with_one b x xs) y ≡ true
  more_in true x xs y is = is
  more_in false x xs y is = by (y == x)
    where
      by : (c : Bool) → (c || is_in xs y) ≡ true
      by true = refl
      by false = is

  first_in : (x : ℕ) (xs : List ℕ) (o : Option BookTunnel) → o ≡ None → is_in (with_one (is_some o) x xs) x ≡ true
  first_in x xs o none =
      ap (λ b. is_in (with_one b x xs) x) (ap (λ q. is_some q) none) ∙ ap (λ b. b || is_in xs x) (eq-eqb x x refl)

  abbrev pub IsLost : List BookTunnel → BookTunnel → Type 0
  IsLost ts t = tunnel_at j t.local ≡ None → is_in (lost ts) (name n t.local) ≡ true

  later : (us : List BookTunnel) (t : BookTunnel) (ts : List BookTunnel) → AllByRecursion (IsLost ts) us
      → AllByRecursion (IsLost (t ∷ ts)) us
  later [] t ts all = tt
  later (u ∷ us) t ts all =
      (λ none. more_in (is_some (tunnel_at j t.local)) (name n t.local) (lost ts) (name n u.local) (all.0 none), later us t ts all.1)

  -- each that the other book doesn't have is among them
  pub all_lost : (ts : List BookTunnel) → AllByRecursion (IsLost ts) ts
  all_lost [] = tt
  all_lost (t ∷ ts) = (λ none. first_in (name n t.local) (lost ts) (tunnel_at j t.local) none, later ts t ts (all_lost ts))

  -- and no other name is
  abbrev pub IsNot : ℕ → BookTunnel → Type 0
  IsNot y t = tunnel_at j t.local ≡ None → y ≡ name n t.local → ⊥

  pub none_lost : (y : ℕ) (ts : List BookTunnel) → AllByRecursion (IsNot y) ts → is_in (lost ts) y ≡ false
  none_lost y [] all = refl
  none_lost y (t ∷ ts) all = by (none_lost y ts all.1) (tunnel_at j t.local) refl
    where
      by : is_in (lost ts) y ≡ false → (o : Option BookTunnel) → tunnel_at j t.local ≡ o
          → is_in (with_one (is_some (tunnel_at j t.local)) (name n t.local) (lost ts)) y ≡ false
      by rest (Some u) has = ap (λ b. is_in (with_one b (name n t.local) (lost ts)) y) (ap (λ q. is_some q) has) ∙ rest
      by rest None has =
          ap (λ b. is_in (with_one b (name n t.local) (lost ts)) y) (ap (λ q. is_some q) has)
          ∙ (ap (λ b. b || is_in (lost ts) y) (ne_eqb y (name n t.local) (all.0 has)) ∙ rest)

  -- ---- in the machine

  abbrev pub MayGo : machine.World → BookTunnel → Type 0
  MayGo m t =
      (m.tunnels.up (m.tunnels.node (name n t.local)) ≡ true) × (m.tunnels.booked (name n t.local) ≡ true)
      × (m.tunnels.phase (name n t.local) ≡ Gone)

  pub lost_clearable : (m : machine.World) (ts : List BookTunnel) → AllByRecursion (MayGo m) ts → AreClearable m (lost ts)
  lost_clearable m [] all = tt
  lost_clearable m (t ∷ ts) all = by (lost_clearable m ts all.1) (is_some (tunnel_at j t.local))
    where
      by : AreClearable m (lost ts) → (b : Bool) → AreClearable m (with_one b (name n t.local) (lost ts))
      by rest true = rest
      by rest false = (all.0, rest)
