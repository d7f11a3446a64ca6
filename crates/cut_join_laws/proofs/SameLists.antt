-- What records make of the lists of a book doesn't depend on its ceilings, and ceilings alone leave the lists as they are.
use Rattle.std.proofs.Common.{◌≡◌, ℕ, Bool, true, false, List, [], ◌∷◌, ◌++◌, refl, sym, ap, ◌∙◌, subst}
use Rattle.std.specs.Prelude.{◌==◌, if◌then◌else◌}
use Rattle.std.specs.List.{AllByRecursion}
use Rattle.session_book.specs.declared.record.BookTunnel.{BookTunnel}
use Rattle.session_book.specs.declared.record.BookCall.{BookCall}
use Rattle.session_book.specs.declared.record.Record.{Record}
use Rattle.session_book.specs.declared.record.Record.TheVariants.{Ceiling, TunnelUp, TunnelDown, CallUp, CallDown, Mark}
use Rattle.session_book.specs.Books.{Kept, AreRising, entry, put, raised, tunnels_without, calls_without, calls_not_of, marked}
use Rattle.session_book.specs.Books.{tunnel_at, call_at, stepped}
use Rattle.end_model.specs.End.{End}
use Rattle.book_laws.specs.Books.{Mirrors, book_after}
use Rattle.book_laws.proofs.Steps.{after_both}

-- two books of the same tunnels and the same calls
pub record SameLists (a b : Kept) : Type 0 where
  pub tunnels : b.tunnels ≡ a.tunnels
  pub calls : b.calls ≡ a.calls

pub lists_same : (a : Kept) → SameLists a a
lists_same a = record { tunnels = refl; calls = refl }

pub lists_on : (a b c : Kept) → SameLists a b → SameLists b c → SameLists a c
lists_on a b c p q = record { tunnels = q.tunnels ∙ p.tunnels; calls = q.calls ∙ p.calls }

pub lists_back : (a b : Kept) → SameLists a b → SameLists b a
lists_back a b p = record { tunnels = sym p.tunnels; calls = sym p.calls }

-- a book with another ceiling, by the space of which it is
abbrev pub raised_by : Bool → Bool → Bool → ℕ → Kept → Kept
raised_by a b c number k =
    if a then record k { tunnel_ceiling = number }
    else if b then record k { session_ceiling = number }
    else if c then record k { draw_ceiling = number }
    else k

-- a ceiling leaves the lists
raised_lists : (space number : ℕ) (k : Kept) → SameLists k (raised space number k)
raised_lists space number k = by (space == 1) (space == 2) (space == 3)
  where
    by : (a b c : Bool) → SameLists k (raised_by a b c number k)
    by true b c = record { tunnels = refl; calls = refl }
    by false true c = record { tunnels = refl; calls = refl }
    by false false true = record { tunnels = refl; calls = refl }
    by false false false = record { tunnels = refl; calls = refl }

pub one_same : (a b : Kept) (r : Record) → SameLists a b → SameLists (stepped a r) (stepped b r)
one_same a b (Ceiling space number) s =
    lists_on (raised space number a) b (raised space number b)
    (lists_on (raised space number a) a b (lists_back a (raised space number a) (raised_lists space number a)) s)
    (raised_lists space number b)
one_same a b (TunnelUp t) s = record { tunnels = ap (put (λ (x : BookTunnel). x.local) t) s.tunnels; calls = s.calls }
one_same a b (TunnelDown id) s = record { tunnels = ap (tunnels_without id) s.tunnels; calls = ap (calls_not_of id) s.calls }
one_same a b (CallUp c) s = record { tunnels = s.tunnels; calls = ap (put (λ (x : BookCall). x.local) c) s.calls }
one_same a b (CallDown id) s = record { tunnels = s.tunnels; calls = ap (calls_without id) s.calls }
one_same a b (Mark id mark) s = record { tunnels = ap (marked id mark) s.tunnels; calls = s.calls }

pub same_lists : (rs : List Record) (a b : Kept) → SameLists a b → SameLists (book_after a rs) (book_after b rs)
same_lists [] a b s = s
same_lists (r ∷ rs) a b s = same_lists rs (stepped a r) (stepped b r) (one_same a b r s)

-- ---- ceilings

abbrev pub IsCeiling : Record → Type 0
IsCeiling (Ceiling space number) = Unit {0}
IsCeiling r = ⊥

pub ceilings_leave : (rs : List Record) (k : Kept) → AllByRecursion IsCeiling rs → SameLists k (book_after k rs)
ceilings_leave [] k all = lists_same k
ceilings_leave (Ceiling space number ∷ rs) k all =
    lists_on k (raised space number k) (book_after (raised space number k) rs) (raised_lists space number k)
    (ceilings_leave rs (raised space number k) all.1)
ceilings_leave (r ∷ rs) k all = absurd all.0

-- so they may be left out before others
pub ceilings_before : (cs rs : List Record) (k : Kept) → AllByRecursion IsCeiling cs → SameLists (book_after k rs) (book_after k (cs ++ rs))
ceilings_before cs rs k all =
    subst (SameLists (book_after k rs)) (sym (after_both k cs rs)) (same_lists rs k (book_after k cs) (ceilings_leave cs k all))

-- ---- what is read of the lists

module _ (a b : Kept) (s : SameLists a b) where
  pub tunnels_as : (i : ℕ) → tunnel_at b i ≡ tunnel_at a i
  tunnels_as i = ap (entry (λ (t : BookTunnel). t.local) i) s.tunnels

  pub calls_as : (i : ℕ) → call_at b i ≡ call_at a i
  calls_as i = ap (entry (λ (c : BookCall). c.local) i) s.calls

  -- it is the book of the same end
  pub same_mirrors : (e : End) → Mirrors e a → Mirrors e b
  same_mirrors e m = record {
    tunnels = λ i. tunnels_as i ∙ m.tunnels i;
    calls = λ i c is. m.calls i c (sym (calls_as i) ∙ is);
    all_calls = λ i q c is. calls_as q ∙ m.all_calls i q c is;
    tunnels_rise = subst (AreRising (λ (t : BookTunnel). t.local)) (sym s.tunnels) m.tunnels_rise;
    calls_rise = subst (AreRising (λ (c : BookCall). c.local)) (sym s.calls) m.calls_rise;
  }
