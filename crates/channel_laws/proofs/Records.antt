-- What is so of each tunnel of a book, or of each call, stays so behind records, where it is so of each that a record brings.
use Rattle.std.proofs.Common.{◌≡◌, inl, inr, ℕ, ◌+◌, ◌≤◌, Bool, true, false, zero, suc, List, [], ◌∷◌, ◌++◌, map, take, drop, refl, sym, ap, ◌∙◌, subst, Some, flat_map, arith}
use Rattle.std.proofs.lemmas.Bool.Decides.{nat_tests}
use Rattle.std.specs.Prelude.{min, ◌-◌, ◌*◌, ◌/◌, ◌==◌, if◌then◌else◌, nat_lt}
use Rattle.std.specs.List.{AllByRecursion}
use Rattle.id_source.specs.Spaces.{Space, counting_from}
use Rattle.session_book.specs.declared.record.BookTunnel.{BookTunnel}
use Rattle.session_book.specs.declared.record.BookCall.{BookCall}
use Rattle.session_book.specs.declared.record.Record.{Record}
use Rattle.session_book.specs.declared.record.Record.TheVariants.{Ceiling, TunnelUp, TunnelDown, CallUp, CallDown, Mark}
use Rattle.session_book.specs.Books.{Kept, place, raised, ceiling, fits, marked, stepped as with_record}
use Rattle.end_names.specs.Names.{address_of}
use Rattle.end_model.specs.Contents.{ceilings_of, call_down, tunnel_down, mark_by, records_of, contents_of}
use Rattle.end_model.specs.declared.moves.Move.{Move}
use Rattle.end_model.specs.declared.moves.Move.TheVariants as move
use Rattle.end_model.specs.End.{End, Stepped}
use Rattle.book_laws.specs.Books.{AreInPlace, book_after}
use Rattle.book_laws.proofs.Lists.{all_filter, and_left}
use Rattle.step_laws.specs.Letters.{Among}
use Rattle.channel_laws.specs.Accounts.{Acceptor, History}
use Rattle.channel_laws.specs.Facts.{IsMade, partner_in, KnowsBy, BookedOk}

all_take : {X : Type 0} (P : X → Type 0) (n : ℕ) (xs : List X) → AllByRecursion P xs → AllByRecursion P (take n xs)
all_take P zero xs all = tt
all_take P (suc n) [] all = tt
all_take P (suc n) (x ∷ xs) all = (all.0, all_take P n xs all.1)

all_drop : {X : Type 0} (P : X → Type 0) (n : ℕ) (xs : List X) → AllByRecursion P xs → AllByRecursion P (drop n xs)
all_drop P zero xs all = all
all_drop P (suc n) [] all = tt
all_drop P (suc n) (x ∷ xs) all = all_drop P n xs all.1

all_append : {X : Type 0} (P : X → Type 0) (xs ys : List X) → AllByRecursion P xs → AllByRecursion P ys → AllByRecursion P (xs ++ ys)
all_append P [] ys all more = more
all_append P (x ∷ xs) ys all more = (all.0, all_append P xs ys all.1 more)

all_flat : {X Y : Type 0} (P : Y → Type 0) (f : X → List Y) (xs : List X) → ((x : X) → Among x xs → AllByRecursion P (f x)) → AllByRecursion P (flat_map f xs)
all_flat P f [] each = tt
all_flat P f (x ∷ xs) each = all_append P (f x) (flat_map f xs) (each x (inl refl)) (all_flat P f xs (λ y among. each y (inr among)))

-- a record brings a tunnel of which it is so, or none
abbrev pub Brings : (BookTunnel → Type 0) → Record → Type 0
Brings P (Ceiling space number) = Unit {0}
Brings P (TunnelUp t) = P t
Brings P (TunnelDown id) = Unit {0}
Brings P (CallUp c) = Unit {0}
Brings P (CallDown id) = Unit {0}
Brings P (Mark id mark) = Unit {0}

raised_tunnels : (space number : ℕ) (k : Kept) → (raised space number k).tunnels ≡ k.tunnels
raised_tunnels space number k = by (space == 1) (space == 2) (space == 3)
  where
    by : (a b c : Bool)
        → (if a then record k { tunnel_ceiling = number } else if b then record k { session_ceiling = number } else if c then record k { draw_ceiling = number } else k).tunnels ≡ k.tunnels
    by true b c = refl
    by false true c = refl
    by false false true = refl
    by false false false = refl

module _ (P : BookTunnel → Type 0) (like : (a b : BookTunnel) → b.local ≡ a.local → b.peer ≡ a.peer → b.remote ≡ a.remote → P a → P b) where
  all_marked : (id mark : ℕ) (ts : List BookTunnel) → AllByRecursion P ts → AllByRecursion P (marked id mark ts)
  all_marked id mark [] all = tt
  all_marked id mark (t ∷ ts) all = (by (t.local == id), all_marked id mark ts all.1)
    where
      by : (b : Bool) → P (if b then record t { mark = mark } else t)
      by true = like t (record t { mark = mark }) refl refl refl all.0
      by false = all.0

  one_after : (k : Kept) (r : Record) → AllByRecursion P k.tunnels → Brings P r → AllByRecursion P (with_record k r).tunnels
  one_after k (Ceiling space number) all brings = subst (AllByRecursion P) (sym (raised_tunnels space number k)) all
  one_after k (TunnelUp t) all brings =
      let i = place (λ (x : BookTunnel). x.local) t.local k.tunnels in
      all_append P (take i k.tunnels) (t ∷ drop i k.tunnels) (all_take P i k.tunnels all) (brings, all_drop P i k.tunnels all)
  one_after k (TunnelDown id) all brings = all_filter P _ k.tunnels all
  one_after k (CallUp c) all brings = all
  one_after k (CallDown id) all brings = all
  one_after k (Mark id mark) all brings = all_marked id mark k.tunnels all

  pub all_after : (k : Kept) (rs : List Record) → AllByRecursion P k.tunnels → AllByRecursion (Brings P) rs → AllByRecursion P (book_after k rs).tunnels
  all_after k [] all brings = all
  all_after k (r ∷ rs) all brings = all_after (with_record k r) rs (one_after k r all brings.0) brings.1

-- a record brings a call of which it is so, or none
abbrev pub BringsCall : (BookCall → Type 0) → Record → Type 0
BringsCall P (Ceiling space number) = Unit {0}
BringsCall P (TunnelUp t) = Unit {0}
BringsCall P (TunnelDown id) = Unit {0}
BringsCall P (CallUp c) = P c
BringsCall P (CallDown id) = Unit {0}
BringsCall P (Mark id mark) = Unit {0}

raised_calls : (space number : ℕ) (k : Kept) → (raised space number k).calls ≡ k.calls
raised_calls space number k = by (space == 1) (space == 2) (space == 3)
  where
    by : (a b c : Bool)
        → (if a then record k { tunnel_ceiling = number } else if b then record k { session_ceiling = number } else if c then record k { draw_ceiling = number } else k).calls ≡ k.calls
    by true b c = refl
    by false true c = refl
    by false false true = refl
    by false false false = refl

module _ (P : BookCall → Type 0) where
  call_after : (k : Kept) (r : Record) → AllByRecursion P k.calls → BringsCall P r → AllByRecursion P (with_record k r).calls
  call_after k (Ceiling space number) all brings = subst (AllByRecursion P) (sym (raised_calls space number k)) all
  call_after k (TunnelUp t) all brings = all
  call_after k (TunnelDown id) all brings = all_filter P _ k.calls all
  call_after k (CallUp c) all brings =
      let i = place (λ (x : BookCall). x.local) c.local k.calls in
      all_append P (take i k.calls) (c ∷ drop i k.calls) (all_take P i k.calls all) (brings, all_drop P i k.calls all)
  call_after k (CallDown id) all brings = all_filter P _ k.calls all
  call_after k (Mark id mark) all brings = all

  pub calls_after : (k : Kept) (rs : List Record) → AllByRecursion P k.calls → AllByRecursion (BringsCall P) rs
      → AllByRecursion P (book_after k rs).calls
  calls_after k [] all brings = all
  calls_after k (r ∷ rs) all brings = calls_after (with_record k r) rs (call_after k r all brings.0) brings.1

-- ---- the records of a step

-- what is so of each record that isn't a tunnel's or a call's coming up
abbrev pub IsNoUp : Record → Type 0
IsNoUp (Ceiling space number) = Unit {0}
IsNoUp (TunnelUp t) = ⊥
IsNoUp (TunnelDown id) = Unit {0}
IsNoUp (CallUp c) = ⊥
IsNoUp (CallDown id) = Unit {0}
IsNoUp (Mark id mark) = Unit {0}

pub none_brings : (P : BookTunnel → Type 0) (r : Record) → IsNoUp r → Brings P r
none_brings P (Ceiling space number) none = tt
none_brings P (TunnelUp t) none = absurd none
none_brings P (TunnelDown id) none = tt
none_brings P (CallUp c) none = absurd none
none_brings P (CallDown id) none = tt
none_brings P (Mark id mark) none = tt

pub none_brings_call : (P : BookCall → Type 0) (r : Record) → IsNoUp r → BringsCall P r
none_brings_call P (Ceiling space number) none = tt
none_brings_call P (TunnelUp t) none = absurd none
none_brings_call P (TunnelDown id) none = tt
none_brings_call P (CallUp c) none = absurd none
none_brings_call P (CallDown id) none = tt
none_brings_call P (Mark id mark) none = tt

-- a move by which nothing comes up
abbrev pub BringsNone : Move → Type 0
BringsNone (move.Connected m) = ⊥
BringsNone (move.Confirmed m) = ⊥
BringsNone (move.FirstUp m) = ⊥
BringsNone (move.SecondUp m) = ⊥
BringsNone m = Unit {0}

module _ (Q : Record → Type 0) (other : (r : Record) → IsNoUp r → Q r) where
  calls_down : (b : Bool) (q : ℕ) → AllByRecursion Q (call_down b q)
  calls_down true q = (other (CallDown q) tt, tt)
  calls_down false q = tt

  tunnels_down : (b : Bool) (q : ℕ) → AllByRecursion Q (tunnel_down b q)
  tunnels_down true q = (other (TunnelDown q) tt, tt)
  tunnels_down false q = tt

  marks_put : (b : Bool) (q mark : ℕ) → AllByRecursion Q (mark_by b q mark)
  marks_put true q mark = (other (Mark q mark) tt, tt)
  marks_put false q mark = tt

  all_down : (ss : List ℕ) → AllByRecursion Q (map (λ q. CallDown q) ss)
  all_down [] = tt
  all_down (q ∷ ss) = (other (CallDown q) tt, all_down ss)

  -- so it is of the records of such a move
  pub none_up : (m : Move) → BringsNone m → AllByRecursion Q (records_of m)
  unfolding records_of
  none_up (move.Connected m) none = absurd none
  none_up (move.Confirmed m) none = absurd none
  none_up (move.FirstUp m) none = absurd none
  none_up (move.SecondUp m) none = absurd none
  none_up (move.EndTold m) none = calls_down m.booked m.session
  none_up (move.EndHeard m) none = calls_down m.booked m.session
  none_up (move.EndSilent m) none = calls_down m.booked m.session
  none_up (move.Closed m) none = tunnels_down m.booked m.tunnel
  none_up (move.ClosedBy m) none = tunnels_down m.booked m.tunnel
  none_up (move.Cleared i booked) none = tunnels_down booked i
  none_up (move.Forgot m) none = (other (TunnelDown m.tunnel) tt, tt)
  none_up (move.Froze m) none = marks_put m.marked m.tunnel m.asked
  none_up (move.ResetAttempting m) none = marks_put m.marked m.tunnel m.draw
  none_up (move.TookAnswer m) none = all_down m.ended
  none_up m none = tt

  all_ceilings : (f : ℕ → Record) → ((k : ℕ) → Q (f k)) → (ns : List ℕ) → AllByRecursion Q (map f ns)
  all_ceilings f each [] = tt
  all_ceilings f each (n ∷ ns) = (each n, all_ceilings f each ns)

  ceilings_so : (space : ℕ) (x y : Space) → AllByRecursion Q (ceilings_of space x y)
  ceilings_so space x y =
      all_ceilings (λ k. Ceiling space (min x.last (x.ceiling + 64 * k)))
      (λ k. other (Ceiling space (min x.last (x.ceiling + 64 * k))) tt) (counting_from 1 ((y.ceiling - x.ceiling + 63) / 64))

  -- and of all that a step leaves up to a stop, where it is so of its moves' records
  pub contents_so : (n : ℕ) (e : End) (s : Stepped) → ((m : Move) → Among m s.moves → AllByRecursion Q (records_of m))
      → AllByRecursion Q (take n (contents_of e s))
  unfolding contents_of
  contents_so n e s each =
      all_take Q n _
      (all_append Q _ _ (ceilings_so 1 e.tunnel_ids s.end.tunnel_ids)
      (all_append Q _ _ (ceilings_so 2 e.session_ids s.end.session_ids)
      (all_append Q _ _ (ceilings_so 3 e.recovery_ids s.end.recovery_ids) (all_flat Q (λ m. records_of m) s.moves each))))

-- ---- ceilings only rise

one_rises : (k : Kept) (r : Record) → fits k r ≡ true → k.tunnel_ceiling ≤ (with_record k r).tunnel_ceiling
one_rises k (Ceiling space number) fit = by (space == 1) (space == 2) (space == 3) refl (and_left (nat_lt (ceiling k space) number) _ fit)
  where
    by : (a b c : Bool) → (space == 1) ≡ a
        → nat_lt (if a then k.tunnel_ceiling else if b then k.session_ceiling else if c then k.draw_ceiling else 0) number ≡ true
        → k.tunnel_ceiling
        ≤ (if a then record k { tunnel_ceiling = number } else if b then record k { session_ceiling = number } else if c then record k { draw_ceiling = number } else k).tunnel_ceiling
    by true b c is lt = grind (arith, nat_tests)
    by false true c is lt = omega arith
    by false false true is lt = omega arith
    by false false false is lt = omega arith
one_rises k (TunnelUp t) fit = omega arith
one_rises k (TunnelDown id) fit = omega arith
one_rises k (CallUp c) fit = omega arith
one_rises k (CallDown id) fit = omega arith
one_rises k (Mark id mark) fit = omega arith

pub ceilings_rise : (k : Kept) (rs : List Record) → AreInPlace k rs → k.tunnel_ceiling ≤ (book_after k rs).tunnel_ceiling
ceilings_rise k [] in_place = omega arith
ceilings_rise k (r ∷ rs) in_place =
    let one = one_rises k r in_place.0 in
    let more = ceilings_rise (with_record k r) rs in_place.1 in
    omega (arith, one, more)

-- ---- tunnels of books

module _ (h : History) (n : ℕ) (a b : BookTunnel) (local : b.local ≡ a.local) (peer : b.peer ≡ a.peer) (remote : b.remote ≡ a.remote) (ok : BookedOk h n a) where
  pub booked_like : BookedOk h n b
  booked_like = record {
    made = subst (λ i. IsMade (h.accounts n i 0)) (sym local) ok.made;
    peer = peer ∙ (ok.peer ∙ ap (λ i. address_of (h.accounts n i 0).peer) (sym local));
    remote = (let lt = ok.remote in omega (arith, lt, remote));
    knows = subst (λ i. KnowsBy h.accounts n i b.remote) (sym local) (subst (λ r. KnowsBy h.accounts n a.local r) (sym remote) ok.knows);
    learned = subst (λ i. (h.accounts n i 0).part ≡ Acceptor → (partner_in h.accounts 0 (h.accounts n i 0)).remote ≡ i) (sym local) ok.learned;
    late = subst (λ i. (h.accounts n i 0).closed ≡ Some 0 → ⊥) (sym local) ok.late;
  }
