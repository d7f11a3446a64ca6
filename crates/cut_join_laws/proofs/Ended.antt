-- Calls that end by an answer, of which a stop keeps the first: each leaves the machine's book as it leaves the node's.
use Rattle.std.proofs.Common.{◌≡◌, ⊎_elim, ℕ, ◌<◌, true, false, List, [], ◌∷◌, ◌++◌, map, refl, sym, ap, ◌∙◌, subst, Option, Some, None}
use Rattle.std.proofs.Common.{eq-eqb, ne_eqb}
use Rattle.std.proofs.lemmas.Bool.{true≢false}
use Rattle.std.specs.Prelude.{is_some, ◌==◌, not, if◌then◌else◌}
use Rattle.id_table.specs.Order.{same_or_not}
use Rattle.session_book.specs.declared.record.BookCall.{BookCall}
use Rattle.session_book.specs.declared.record.Record.TheVariants.{CallDown}
use Rattle.session_book.specs.Books.{Kept, AreRising, call_at, stepped}
use Rattle.world_model.specs.World.{Node}
use Rattle.book_laws.specs.Books.{AreInPlace, book_after}
use Rattle.book_laws.proofs.Lists.{entry_has, entry_filter, filter_rises, passing}
use Rattle.book_laws.proofs.Pending.{passes}
use Rattle.node_laws.specs.Nodes.{HoldsUp}
use Rattle.epoch_machine.specs.Worlds as machine
use Rattle.epoch_machine.specs.Moves as moves
use Rattle.epoch_machine.specs.Moves.{may_keep, keeps}
use Rattle.epoch_machine.specs.Calls.{lives, ends}
use Rattle.epoch_machine.proofs.Tells.{both, same_test}
use Rattle.birth_laws.specs.Births.{CallsHold}
use Rattle.stop_laws.specs.Records.{writes, each_allowed}
use Rattle.stop_laws.proofs.Lists.{all_of}
use Rattle.session_laws.specs.Names.{name}
use Rattle.session_laws.proofs.Names.{same_name}
use Rattle.channel_laws.specs.Accounts.{History}
use Rattle.recovery_laws.specs.Joined.{BookCallJoined, CallsJoined}
use Rattle.line_join_laws.specs.Falls.{IsCutBook}
use Rattle.cut_join_laws.proofs.Before.{lived_before}
use Rattle.cut_join_laws.proofs.CutBook.{CutsTo}

abbrev id_of : BookCall → ℕ
id_of c = c.local

-- ---- one record more

one_allowed : (m : machine.World) (n : ℕ) (ks : List moves.Kept) (k : moves.Kept) → each_allowed m n ks ≡ true → may_keep m n k ≡ true
    → each_allowed m n (ks ++ k ∷ []) ≡ true
unfolding each_allowed
one_allowed m n [] k ok may = all_of (may_keep m n k) true may refl
one_allowed m n (j ∷ ks) k ok may =
    let q = both (may_keep m n j) (each_allowed m n ks) ok in
    all_of (may_keep m n j) (each_allowed m n (ks ++ k ∷ [])) q.0 (one_allowed m n ks k q.1 may)

one_written : (m : machine.World) (ks : List moves.Kept) (k : moves.Kept) → writes m (ks ++ k ∷ []) ≡ keeps (writes m ks) k
unfolding writes
one_written m [] k = refl
one_written m (j ∷ ks) k = one_written (keeps m j) ks k

-- ---- a book without a call

module _ (j : Kept) (rise : AreRising id_of j.calls) (s : ℕ) where
  abbrev without : Kept
  without = stepped j (CallDown s)

  left_at : (t : ℕ) → call_at without t ≡ passing id_of (λ (c : BookCall). not (c.local == s)) (call_at j t)
  left_at t = entry_filter id_of (λ (c : BookCall). not (c.local == s)) t j.calls rise

  was_there : (t : ℕ) (b : BookCall) → call_at without t ≡ Some b → call_at j t ≡ Some b
  was_there t b is = (passes id_of (λ (c : BookCall). not (c.local == s)) (call_at j t) b (sym (left_at t) ∙ is)).0

  still_rise : AreRising id_of without.calls
  still_rise = filter_rises id_of (λ (c : BookCall). not (c.local == s)) j.calls rise

  -- it is gone, and each other one is there
  is_gone : (t : ℕ) → t ≡ s → is_some (call_at without t) ≡ false
  is_gone t e = ap (λ o. is_some o) (left_at t) ∙ by (call_at j t) refl
    where
      by : (o : Option BookCall) → call_at j t ≡ o → is_some (passing id_of (λ (c : BookCall). not (c.local == s)) o) ≡ false
      by None is = refl
      by (Some b) is =
          ap (λ q. is_some (if not q then Some b else None)) (eq-eqb b.local s (entry_has id_of t j.calls b is ∙ e))

  is_there : (t : ℕ) → (t ≡ s → ⊥) → is_some (call_at without t) ≡ is_some (call_at j t)
  is_there t o = ap (λ q. is_some q) (left_at t) ∙ by (call_at j t) refl
    where
      by : (q : Option BookCall) → call_at j t ≡ q → is_some (passing id_of (λ (c : BookCall). not (c.local == s)) q) ≡ is_some q
      by None is = refl
      by (Some b) is =
          ap (λ q. is_some (if not q then Some b else None)) (ne_eqb b.local s (λ e. o (sym (entry_has id_of t j.calls b is) ∙ e)))

-- ---- one call ends

module _ (h : History) (m : machine.World) (births : CallsHold m.tunnels m.calls) (n : ℕ) (old : Node) (up : HoldsUp old)
    (joined : CallsJoined m h n old) where
  -- the calls of a book are in their order, and their ids have 16 bits
  pub record AreOrdered (j : Kept) : Type 0 where
    pub rise : AreRising id_of j.calls
    pub bound : (s : ℕ) (b : BookCall) → call_at j s ≡ Some b → s < 65536

  module _ (j : Kept) (ordered : AreOrdered j) (cut : CutsTo m h n j) (s : ℕ) (b : BookCall) (has : call_at j s ≡ Some b) where
    abbrev c : machine.World
    c = writes m cut.records

    abbrev d : machine.World
    d = keeps c (moves.CallDown (name n s))

    fits : s < 65536
    fits = ordered.bound s b has

    lived : lives (m.calls.state (name n s)) ≡ true
    lived = lived_before h m births n old up joined cut.records cut.allowed s fits (cut.book.calls s fits ∙ ap (λ o. is_some o) has)

    may : may_keep m n (moves.CallDown (name n s)) ≡ true
    unfolding may_keep
    may = all_of (m.tunnels.node (m.calls.tunnel (name n s)) == n) (lives (m.calls.state (name n s)))
        (same_test (m.tunnels.node (m.calls.tunnel (name n s))) n (joined.home s fits lived)) lived

    booked_is : (t : ℕ) → d.calls.booked (name n t) ≡ (if name n t == name n s then false else c.calls.booked (name n t))
    unfolding keeps «ends»
    booked_is t = refl

    booked_on : (t : ℕ) → t < 65536 → d.calls.booked (name n t) ≡ is_some (call_at (without j ordered.rise s) t)
    booked_on t lt = ⊎_elim
        (λ (e : t ≡ s).
        booked_is t
        ∙ (ap (λ q. if q then false else c.calls.booked (name n t)) (eq-eqb (name n t) (name n s) (ap (λ q. name n q) e))
        ∙ sym (is_gone j ordered.rise s t e)))
        (λ (o : t ≡ s → ⊥).
        booked_is t
        ∙ (ap (λ q. if q then false else c.calls.booked (name n t)) (ne_eqb (name n t) (name n s) (λ e. o (same_name n t n s lt fits e).1))
        ∙ (cut.book.calls t lt ∙ sym (is_there j ordered.rise s t o))))
        (same_or_not t s)

    kept_on : (t : ℕ) (a : BookCall) → BookCallJoined c h n t a → BookCallJoined d h n t a
    unfolding keeps «ends»
    kept_on t a q = record { tunnel = q.tunnel; remote = q.remote }

    tunnels_on : d.tunnels ≡ c.tunnels
    unfolding keeps
    tunnels_on = refl

    cut_on : IsCutBook d h n (without j ordered.rise s)
    unfolding keeps
    cut_on = record {
      booked = cut.book.booked;
      learned = cut.book.learned;
      calls = booked_on;
      kept = λ t a is. kept_on t a (cut.book.kept t a (was_there j ordered.rise s t a is));
    }

    pub ended_cuts : CutsTo m h n (stepped j (CallDown s))
    ended_cuts = record {
      records = cut.records ++ moves.CallDown (name n s) ∷ [];
      allowed = one_allowed m n cut.records (moves.CallDown (name n s)) cut.allowed may;
      book = subst (λ q. IsCutBook q h n (stepped j (CallDown s))) (sym (one_written m cut.records (moves.CallDown (name n s)))) cut_on;
    }

    pub ended_ordered : AreOrdered (stepped j (CallDown s))
    ended_ordered = record {
      rise = still_rise j ordered.rise s;
      bound = λ t a is. ordered.bound t a (was_there j ordered.rise s t a is);
    }

  some_call : (o : Option BookCall) → is_some o ≡ true → (b : BookCall) × (o ≡ Some b)
  some_call None is = absurd (true≢false (sym is))
  some_call (Some b) is = (b, refl)

  -- ---- all of them end

  pub all_cut : (ss : List ℕ) (j : Kept) → AreOrdered j → CutsTo m h n j → AreInPlace j (map (λ q. CallDown q) ss)
      → CutsTo m h n (book_after j (map (λ q. CallDown q) ss))
  all_cut [] j ordered cut in_place = cut
  all_cut (s ∷ ss) j ordered cut in_place =
      let b = some_call (call_at j s) in_place.0 in
      all_cut ss (stepped j (CallDown s)) (ended_ordered j ordered cut s b.0 b.1) (ended_cuts j ordered cut s b.0 b.1) in_place.1
