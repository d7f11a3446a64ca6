-- A line that makes no step keeps what holds of the world: nothing is done, a stop is armed, or a node falls.
use Rattle.std.proofs.Common.{◌≡◌, ⊎_elim, ℕ, ◌+◌, ◌<◌, Bool, true, false, List, [], ◌∷◌, refl, sym, ap, ◌∙◌, subst, Option, Some, None, arith}
use Rattle.std.proofs.lemmas.Option.{none-some}
use Rattle.std.specs.Prelude.{is_some, unwrap_or, if◌then◌else◌}
use Rattle.std.specs.List.{AllByRecursion}
use Rattle.id_table.specs.Ids.{at, put, ids_of, at-none}
use Rattle.id_table.specs.Order.{at_new, at_other, same_or_not}
use Rattle.end_names.specs.Names.{address_of}
use Rattle.end_names.specs.declared.role.Role.{Role}
use Rattle.end_names.specs.declared.role.Role.TheVariants.{Lac}
use Rattle.end_model.specs.Tunnels.{Tunnel, Recovering, ByAttempt, ByAnswer}
use Rattle.end_model.specs.End.{End}
use Rattle.world_model.specs.declared.standing.Standing.{Standing}
use Rattle.world_model.specs.declared.stop.StopAt.{StopAt}
use Rattle.world_model.specs.World.{World, Node, no_standing, standing_in, standing_of, epoch_of, answer_in, with_node, with_stop, counts_of, lost_with, loses_counts, fallen, without_held, block_of, new_node, empty_world}
use Rattle.node_laws.specs.Nodes.{HoldsNode}
use Rattle.channel_laws.specs.Accounts.{Unmade, Account, History, no_account, no_history}
use Rattle.channel_laws.specs.Facts.{IsMade, makes, IsRecovered, ChannelOk, LiveOk, EndOk, BookOk, NodeOk, StandingOk, PacketOk, Holds, QueryOk}
use Rattle.channel_laws.proofs.Growing.{Grows, account_grows, answers_grow, packets_grow}

-- ---- a world of which each node is as before, but for parts of which nothing is said

-- the same end, checkpoint and answers; of each tunnel the same epoch and as many made, and nothing else of one that was never made
pub record Rests (h : History) (n : ℕ) (a b : Node) : Type 0 where
  pub answers : b.answers ≡ a.answers
  pub epochs : (i : ℕ) → (standing_in (Some b) i).epoch ≡ (standing_in (Some a) i).epoch
  pub made : (i : ℕ) → (standing_in (Some b) i).made ≡ (standing_in (Some a) i).made
  pub none : (i : ℕ) → (h.accounts n i 0).part ≡ Unmade → standing_in (Some a) i ≡ no_standing → standing_in (Some b) i ≡ no_standing

abbrev pub RestsBy : History → ℕ → Option Node → Option Node → Type 0
RestsBy h n None None = Unit {0}
RestsBy h n None (Some b) = ⊥
RestsBy h n (Some a) None = ⊥
RestsBy h n (Some a) (Some b) = Rests h n a b

module _ (w v : World) (h : History) (rests : (n : ℕ) → RestsBy h n (at w.nodes n) (at v.nodes n)) where
  rests_at : (n : ℕ) (a b : Option Node) → at w.nodes n ≡ a → at v.nodes n ≡ b → RestsBy h n a b
  rests_at n a b is so = subst (λ q. RestsBy h n q b) is (subst (λ q. RestsBy h n (at w.nodes n) q) so (rests n))

  pub epochs_rest : (n i : ℕ) → epoch_of v n i ≡ epoch_of w n i
  unfolding standing_of
  epochs_rest n i = by (at w.nodes n) (at v.nodes n) refl refl
    where
      by : (a b : Option Node) → at w.nodes n ≡ a → at v.nodes n ≡ b → (standing_in b i).epoch ≡ (standing_in a i).epoch
      by None None is so = refl
      by None (Some b) is so = absurd (rests_at n None (Some b) is so)
      by (Some a) None is so = absurd (rests_at n (Some a) None is so)
      by (Some a) (Some b) is so = (rests_at n (Some a) (Some b) is so).epochs i

  pub made_rests : (n i : ℕ) → (standing_of v n i).made ≡ (standing_of w n i).made
  unfolding standing_of
  made_rests n i = by (at w.nodes n) (at v.nodes n) refl refl
    where
      by : (a b : Option Node) → at w.nodes n ≡ a → at v.nodes n ≡ b → (standing_in b i).made ≡ (standing_in a i).made
      by None None is so = refl
      by None (Some b) is so = absurd (rests_at n None (Some b) is so)
      by (Some a) None is so = absurd (rests_at n (Some a) None is so)
      by (Some a) (Some b) is so = (rests_at n (Some a) (Some b) is so).made i

  none_rests : (n i : ℕ) → (h.accounts n i 0).part ≡ Unmade → standing_of w n i ≡ no_standing → standing_of v n i ≡ no_standing
  unfolding standing_of
  none_rests n i unmade = by (at w.nodes n) (at v.nodes n) refl refl
    where
      by : (a b : Option Node) → at w.nodes n ≡ a → at v.nodes n ≡ b → standing_in a i ≡ no_standing → standing_in b i ≡ no_standing
      by None None is so none = refl
      by None (Some b) is so none = absurd (rests_at n None (Some b) is so)
      by (Some a) None is so none = absurd (rests_at n (Some a) None is so)
      by (Some a) (Some b) is so none = (rests_at n (Some a) (Some b) is so).none i unmade none

  pub makes_rest : (n c : ℕ) → makes v n c ≡ makes w n c
  makes_rest n c = by (at w.nodes n) (at v.nodes n) refl refl
    where
      by : (a b : Option Node) → at w.nodes n ≡ a → at v.nodes n ≡ b → answer_in b c ≡ answer_in a c
      by None None is so = refl
      by None (Some b) is so = absurd (rests_at n None (Some b) is so)
      by (Some a) None is so = absurd (rests_at n (Some a) None is so)
      by (Some a) (Some b) is so = ap (λ q. unwrap_or (at q c) 0) (rests_at n (Some a) (Some b) is so).answers

  grows : Grows w v h
  grows = record {
    epochs = λ n i. (let e = epochs_rest n i in omega (arith, e));
    made = λ n i. (let e = made_rests n i in omega (arith, e));
    makes = λ n c f is. makes_rest n c;
  }

  standing_rests : (n i : ℕ) → StandingOk h n i (standing_of w n i) → StandingOk h n i (standing_of v n i)
  standing_rests n i ok = record {
    none = λ unmade. none_rests n i unmade (ok.none unmade);
    entered = λ made. subst (λ e. IsMade (h.accounts n i e)) (sym (epochs_rest n i)) (ok.entered made);
    made = (let e = epochs_rest n i in let m = made_rests n i in let le = ok.made in omega (arith, e, m, le));
    fits = (let m = made_rests n i in let lt = ok.fits in omega (arith, m, lt));
  }

  -- so all of it holds, where the nodes do
  pub holds_rest : Holds w h → v.packets ≡ w.packets → ((n : ℕ) → NodeOk v h n (at v.nodes n)) → Holds v h
  holds_rest holds packets nodes = record {
    accounts = λ n i e. account_grows w v h grows n i e (h.accounts n i e) (holds.accounts n i e);
    attempts = holds.attempts;
    answers = λ n c f is. answers_grow w v h grows n c f is (holds.answers n c f is);
    standings = λ n i. standing_rests n i (holds.standings n i);
    nodes = nodes;
    packets = subst (AllByRecursion (PacketOk v h)) (sym packets) (packets_grow w v h grows w.packets holds.packets);
  }

  -- ---- an end that is as it was

  recovered_rests : (n i : ℕ) (r : Recovering) → IsRecovered w h n i r → IsRecovered v h n i r
  recovered_rests n i (ByAttempt c) (k, reset, named) = (
    k,
    λ is. (let q = reset is in
        let e = epochs_rest n i in let m = makes_rest (h.accounts n i 0).peer c.remote in let le = q.4 in (q.0, q.1, q.2, q.3, omega (arith, e, m, le), q.5)),
    named,
  )
  recovered_rests n i (ByAnswer a) k =
      (k.0, k.1, k.2, k.3, k.4, λ is. (let e = epochs_rest n i in let m = makes_rest n a.connection.local in let le = k.5 is in omega (arith, e, m, le)), k.6)

  live_rests : (n i : ℕ) (t : Tunnel) → (standing_of v n i).lost ≡ (standing_of w n i).lost → LiveOk w h n i t → LiveOk v h n i t
  live_rests n i t lost ok = record {
    local = ok.local;
    made = ok.made;
    peer = ok.peer;
    channel = λ current. subst (λ e. ChannelOk h.accounts n i e (h.accounts n i e) t) (sym (epochs_rest n i)) (ok.channel current);
    kept = λ current. lost ∙ ok.kept current;
    established = ok.established;
    some = ok.some;
    knows = ok.knows;
    learned = ok.learned;
    recovery = λ r is. recovered_rests n i r (ok.recovery r is);
    unattempted = ok.unattempted;
    calls = ok.calls;
    query = subst (λ e. QueryOk e t.query) (sym (epochs_rest n i)) ok.query;
  }

  pub end_rests : (n : ℕ) (e : End) → ((i : ℕ) → (standing_of v n i).lost ≡ (standing_of w n i).lost) → EndOk w h n e → EndOk v h n e
  end_rests n e lost ok = record {
    node = ok.node;
    number = ok.number;
    lns = ok.lns;
    ids = ok.ids;
    live = λ i t there. live_rests n i t (lost i) (ok.live i t there);
    apart = ok.apart;
  }

-- ---- a node falls

-- what is kept of the tunnels of an end as it falls
lost_epoch : (o : Option Tunnel) (s : Standing) → ((lost_with o s).epoch ≡ s.epoch) × ((lost_with o s).made ≡ s.made)
lost_epoch None s = (refl, refl)
lost_epoch (Some t) s = by (is_some s.lost)
  where
    by : (b : Bool) → ((if b then s else record s { lost = Some (counts_of t.control) }).epoch ≡ s.epoch) × ((if b then s else record s { lost = Some (counts_of t.control) }).made ≡ s.made)
    by true = (refl, refl)
    by false = (refl, refl)

abbrev kept_at : List (ℕ × Standing) → ℕ → Standing
kept_at xs i = unwrap_or (at xs i) no_standing

module _ (e : End) (i : ℕ) where
  after_put : (xs : List (ℕ × Standing)) (j : ℕ) → ((kept_at (put xs j (lost_with (at e.tunnels j) (kept_at xs j))) i).epoch ≡ (kept_at xs i).epoch)
      × (((kept_at (put xs j (lost_with (at e.tunnels j) (kept_at xs j))) i).made ≡ (kept_at xs i).made)
      × (at e.tunnels i ≡ None → kept_at (put xs j (lost_with (at e.tunnels j) (kept_at xs j))) i ≡ kept_at xs i))
  after_put xs j = ⊎_elim
      (λ (same : i ≡ j).
      let y = lost_with (at e.tunnels j) (kept_at xs j) in
      let here : kept_at (put xs j y) i ≡ y = ap (λ o. unwrap_or o no_standing) (subst (λ q. at (put xs j y) q ≡ Some y) (sym same) (at_new xs j y)) in
      let l = lost_epoch (at e.tunnels j) (kept_at xs j) in
      let was : kept_at xs j ≡ kept_at xs i = ap (kept_at xs) (sym same) in (
        ap (λ (s : Standing). s.epoch) here ∙ (l.0 ∙ ap (λ (s : Standing). s.epoch) was),
        (
          ap (λ (s : Standing). s.made) here ∙ (l.1 ∙ ap (λ (s : Standing). s.made) was),
          λ none. here ∙ (ap (λ o. lost_with o (kept_at xs j)) (ap (at e.tunnels) (sym same) ∙ none) ∙ was),
        ),
      ))
      (λ (o : i ≡ j → ⊥).
      let there : kept_at (put xs j (lost_with (at e.tunnels j) (kept_at xs j))) i ≡ kept_at xs i = ap (λ q. unwrap_or q no_standing) (at_other xs j _ i o) in
      (ap (λ (s : Standing). s.epoch) there, (ap (λ (s : Standing). s.made) there, λ none. there)))
      (same_or_not i j)

  pub after_loss : (is : List ℕ) (xs : List (ℕ × Standing)) → ((kept_at (loses_counts e is xs) i).epoch ≡ (kept_at xs i).epoch)
      × (((kept_at (loses_counts e is xs) i).made ≡ (kept_at xs i).made) × (at e.tunnels i ≡ None → kept_at (loses_counts e is xs) i ≡ kept_at xs i))
  unfolding loses_counts
  after_loss [] xs = (refl, (refl, λ none. refl))
  after_loss (j ∷ is) xs =
      let one = after_put xs j in
      let more = after_loss is (put xs j (lost_with (at e.tunnels j) (kept_at xs j))) in
      (more.0 ∙ one.0, (more.1.0 ∙ one.1.0, λ none. more.1.1 none ∙ one.1.1 none))

-- ---- lines

-- each node is as it was
same_rests : (h : History) (n : ℕ) (o : Option Node) → RestsBy h n o o
same_rests h n None = tt
same_rests h n (Some a) = record { answers = refl; epochs = λ i. refl; made = λ i. refl; none = λ i unmade none. none }

-- the same nodes and packets
module _ (w v : World) (h : History) (holds : Holds w h) (nodes : v.nodes ≡ w.nodes) (packets : v.packets ≡ w.packets) where
  pub rests_as : (n : ℕ) → RestsBy h n (at w.nodes n) (at v.nodes n)
  rests_as n = subst (RestsBy h n (at w.nodes n)) (sym (ap (λ q. at q n) nodes)) (same_rests h n (at w.nodes n))

  lost_as : (n i : ℕ) → (standing_of v n i).lost ≡ (standing_of w n i).lost
  unfolding standing_of
  lost_as n i = ap (λ q. (standing_in (at q n) i).lost) nodes

  node_as : (n : ℕ) (o : Option Node) → NodeOk w h n o → NodeOk v h n o
  node_as n None ok = ok
  node_as n (Some node) ok = (end_rests w v h rests_as n node.end (λ i. lost_as n i) ok.0, ok.1)

  pub same_holds : Holds v h
  same_holds = holds_rest w v h rests_as holds packets
      (λ n. subst (λ o. NodeOk v h n o) (sym (ap (λ q. at q n) nodes)) (node_as n (at w.nodes n) (holds.nodes n)))

-- one node is put in the place of another, of which the same is known
module _ (w : World) (h : History) (n : ℕ) (old new : Node) (was : at w.nodes n ≡ Some old) (holds : Holds w h) where
  abbrev pub v : World
  v = with_node w n new

  module _ (rests : Rests h n old new) where
    pub rests_but : (m : ℕ) → RestsBy h m (at w.nodes m) (at v.nodes m)
    rests_but m = ⊎_elim
        (λ (same : m ≡ n).
        let here : at w.nodes m ≡ Some old = ap (at w.nodes) same ∙ was in
        let there : at v.nodes m ≡ Some new = subst (λ q. at v.nodes q ≡ Some new) (sym same) (at_new w.nodes n new) in
        let at_node : Rests h m old new = subst (λ q. Rests h q old new) (sym same) rests in
        subst (λ q. RestsBy h m q (at v.nodes m)) (sym here) (subst (λ q. RestsBy h m (Some old) q) (sym there) at_node))
        (λ (o : m ≡ n → ⊥). subst (λ q. RestsBy h m (at w.nodes m) q) (sym (at_other w.nodes n new m o)) (same_rests h m (at w.nodes m)))
        (same_or_not m n)

    other_lost : (m i : ℕ) → (m ≡ n → ⊥) → (standing_of v m i).lost ≡ (standing_of w m i).lost
    unfolding standing_of
    other_lost m i o = ap (λ q. (standing_in q i).lost) (at_other w.nodes n new m o)

    other_node : (m : ℕ) → (m ≡ n → ⊥) → (o : Option Node) → NodeOk w h m o → NodeOk v h m o
    other_node m o None ok = ok
    other_node m o (Some node) ok = (end_rests w v h rests_but m node.end (λ i. other_lost m i o) ok.0, ok.1)

    pub put_holds : NodeOk v h n (Some new) → Holds v h
    put_holds ok = holds_rest w v h rests_but holds refl
        (λ m. ⊎_elim
        (λ (same : m ≡ n).
        let there : at v.nodes m ≡ Some new = subst (λ q. at v.nodes q ≡ Some new) (sym same) (at_new w.nodes n new) in
        subst (λ o. NodeOk v h m o) (sym there) (subst (λ q. NodeOk v h q (Some new)) (sym same) ok))
        (λ (o : m ≡ n → ⊥). subst (λ q. NodeOk v h m q) (sym (at_other w.nodes n new m o)) (other_node m o (at w.nodes m) (holds.nodes m)))
        (same_or_not m n))

-- ---- a crash

module _ (w : World) (h : History) (number n : ℕ) (old : Node) (was : at w.nodes n ≡ Some old) (up : old.up ≡ true) (node : HoldsNode old) (holds : Holds w h) where
  abbrev pub fell : Node
  fell = fallen (block_of n number) old.end old old.checkpoint

  old_ok : EndOk w h n old.end × BookOk h n old.checkpoint.book
  old_ok = subst (NodeOk w h n) was (holds.nodes n)

  -- no tunnel that was never made is live
  unmade_gone : (i : ℕ) → (h.accounts n i 0).part ≡ Unmade → at old.end.tunnels i ≡ None
  unmade_gone i unmade = by (at old.end.tunnels i) refl
    where
      by : (o : Option Tunnel) → at old.end.tunnels i ≡ o → o ≡ None
      by None is = refl
      by (Some t) is = absurd ((old_ok.0.live i t is).made unmade)

  pub fell_rests : Rests h n old fell
  unfolding fallen
  fell_rests = record {
    answers = refl;
    epochs = λ i. (after_loss old.end i (ids_of old.end.tunnels) old.standings).0;
    made = λ i. (after_loss old.end i (ids_of old.end.tunnels) old.standings).1.0;
    none = λ i unmade none. (after_loss old.end i (ids_of old.end.tunnels) old.standings).1.1 (unmade_gone i unmade) ∙ none;
  }

  -- its ids go on above those that were drawn
  above : (i : ℕ) → i < old.end.tunnel_ids.next → i < old.checkpoint.book.tunnel_ceiling + 1
  above i lt =
      let u = node.up up in
      let drawn = u.fit.tunnel_ids.drawn in
      let same = u.book.tunnel_ceiling in
      omega (arith, lt, drawn, same)

  fell_ok : NodeOk (with_node w n fell) h n (Some fell)
  unfolding fallen
  fell_ok =
      let e = old_ok.0 in
      let ids = e.ids in (
        record {
          node = e.node;
          number = e.number;
          lns = e.lns;
          ids = record {
            tunnels = λ i made. above i (ids.tunnels i made);
            attempts = λ a is. above a (ids.attempts a is);
            answers = λ c is. above c (ids.answers c is);
            no_attempt = ids.no_attempt;
            no_answer = ids.no_answer;
            one = ids.one;
          };
          live = λ i t there. absurd (none-some t (sym (at-none i) ∙ there));
          apart = λ i j t u there too. absurd (none-some t (sym (at-none i) ∙ there));
        },
        old_ok.1,
      )

  pub fall_holds : Holds (without_held (with_node w n fell) n) h
  fall_holds =
      let v = with_node w n fell in
      same_holds v (without_held v n) h (put_holds w h n old fell was holds fell_rests fell_ok) refl refl

-- ---- a stop is armed

module _ (w : World) (h : History) (n : ℕ) (old : Node) (was : at w.nodes n ≡ Some old) (holds : Holds w h) (s : StopAt) where
  abbrev pub armed_node : Node
  armed_node = record old { checkpoint = with_stop (Some s) old.checkpoint }

  pub armed_rests : Rests h n old armed_node
  armed_rests = record { answers = refl; epochs = λ i. refl; made = λ i. refl; none = λ i unmade none. none }

  armed_lost : (i : ℕ) → (standing_of (with_node w n armed_node) n i).lost ≡ (standing_of w n i).lost
  unfolding standing_of
  armed_lost i = ap (λ q. (standing_in q i).lost) (at_new w.nodes n armed_node) ∙ sym (ap (λ q. (standing_in q i).lost) was)

  pub arm_holds : Holds (with_node w n armed_node) h
  arm_holds =
      let ok = subst (NodeOk w h n) was (holds.nodes n) in
      put_holds w h n old armed_node was holds armed_rests
      (end_rests w (with_node w n armed_node) h (rests_but w h n old armed_node was holds armed_rests) n old.end (λ i. armed_lost i) ok.0, ok.1)

-- ---- a node is declared

module _ (w : World) (h : History) (n : ℕ) (new : Node) (lt : n < 256) (none : at w.nodes n ≡ None) (holds : Holds w h) where
  nothing_known : ((i e : ℕ) → h.accounts n i e ≡ no_account) × (((a : ℕ) → h.attempts n a ≡ None) × ((c : ℕ) → h.answers n c ≡ None))
  nothing_known = subst (NodeOk w h n) none (holds.nodes n)

  -- nothing was made there
  not_made : (i e : ℕ) → IsMade (h.accounts n i e) → ⊥
  not_made i e made = made (ap (λ (a : Account). a.part) (nothing_known.0 i e))

  abbrev pub grown : World
  grown = with_node w n new

  new_here : at grown.nodes n ≡ Some new
  new_here = at_new w.nodes n new

  -- the worlds' standings are as they were: the new node has none
  module _ (bare : new.standings ≡ []) (no_answers : new.answers ≡ []) where
    new_standing : (i : ℕ) → standing_in (Some new) i ≡ no_standing
    new_standing i = ap (λ q. unwrap_or (at q i) no_standing) bare ∙ ap (λ q. unwrap_or q no_standing) (at-none i)

    standing_as : (m i : ℕ) → standing_of grown m i ≡ standing_of w m i
    unfolding standing_of
    standing_as m i = ⊎_elim
        (λ (same : m ≡ n).
        ap (λ q. standing_in q i) (ap (at grown.nodes) same ∙ new_here) ∙ (new_standing i ∙ sym (ap (λ q. standing_in q i) (ap (at w.nodes) same ∙ none))))
        (λ (o : m ≡ n → ⊥). ap (λ q. standing_in q i) (at_other w.nodes n new m o))
        (same_or_not m n)

    makes_as : (m c : ℕ) → makes grown m c ≡ makes w m c
    makes_as m c = ⊎_elim
        (λ (same : m ≡ n).
        ap (λ q. answer_in q c) (ap (at grown.nodes) same ∙ new_here)
        ∙ (ap (λ q. unwrap_or (at q c) 0) no_answers ∙ (ap (λ q. unwrap_or q 0) (at-none c) ∙ sym (ap (λ q. answer_in q c) (ap (at w.nodes) same ∙ none)))))
        (λ (o : m ≡ n → ⊥). ap (λ q. answer_in q c) (at_other w.nodes n new m o))
        (same_or_not m n)

    grows_so : Grows w grown h
    grows_so = record {
      epochs = λ m i. (let e = ap (λ (s : Standing). s.epoch) (standing_as m i) in omega (arith, e));
      made = λ m i. (let e = ap (λ (s : Standing). s.made) (standing_as m i) in omega (arith, e));
      makes = λ m c f is. makes_as m c;
    }

    -- an end of another node
    recovered_as : (m i : ℕ) (r : Recovering) → IsRecovered w h m i r → IsRecovered grown h m i r
    recovered_as m i (ByAttempt c) (k, reset, named) = (
      k,
      λ is. (let q = reset is in
          let e = ap (λ (s : Standing). s.epoch) (standing_as m i) in let x = makes_as (h.accounts m i 0).peer c.remote in let le = q.4 in (q.0, q.1, q.2, q.3, omega (arith, e, x, le), q.5)),
      named,
    )
    recovered_as m i (ByAnswer a) k =
        (k.0, k.1, k.2, k.3, k.4, λ is. (let e = ap (λ (s : Standing). s.epoch) (standing_as m i) in let x = makes_as m a.connection.local in let le = k.5 is in omega (arith, e, x, le)), k.6)

    live_as : (m i : ℕ) (t : Tunnel) → LiveOk w h m i t → LiveOk grown h m i t
    live_as m i t ok = record {
      local = ok.local;
      made = ok.made;
      peer = ok.peer;
      channel = λ current. subst (λ e. ChannelOk h.accounts m i e (h.accounts m i e) t) (sym (ap (λ (s : Standing). s.epoch) (standing_as m i))) (ok.channel current);
      kept = λ current. ap (λ (s : Standing). s.lost) (standing_as m i) ∙ ok.kept current;
      established = ok.established;
      some = ok.some;
      knows = ok.knows;
      learned = ok.learned;
      recovery = λ r is. recovered_as m i r (ok.recovery r is);
      unattempted = ok.unattempted;
      calls = ok.calls;
      query = subst (λ e. QueryOk e t.query) (sym (ap (λ (s : Standing). s.epoch) (standing_as m i))) ok.query;
    }

    other_as : (m : ℕ) (o : Option Node) → NodeOk w h m o → NodeOk grown h m o
    other_as m None ok = ok
    other_as m (Some node) ok = (
      record {
        node = ok.0.node;
        number = ok.0.number;
        lns = ok.0.lns;
        ids = ok.0.ids;
        live = λ i t there. live_as m i t (ok.0.live i t there);
        apart = ok.0.apart;
      },
      ok.1,
    )

    pub grown_holds : NodeOk grown h n (Some new) → Holds grown h
    grown_holds ok = record {
      accounts = λ m i e. account_grows w grown h grows_so m i e (h.accounts m i e) (holds.accounts m i e);
      attempts = holds.attempts;
      answers = λ m c f is. answers_grow w grown h grows_so m c f is (holds.answers m c f is);
      standings = λ m i. subst (StandingOk h m i) (sym (standing_as m i)) (holds.standings m i);
      nodes = λ m. ⊎_elim
          (λ (same : m ≡ n). subst (λ q. NodeOk grown h q (at grown.nodes q)) (sym same) (subst (NodeOk grown h n) (sym new_here) ok))
          (λ (o : m ≡ n → ⊥). subst (NodeOk grown h m) (sym (at_other w.nodes n new m o)) (other_as m (at w.nodes m) (holds.nodes m)))
          (same_or_not m n);
      packets = packets_grow w grown h grows_so w.packets holds.packets;
    }

-- one that is declared in a line
module _ (w : World) (h : History) (number n : ℕ) (r : Role) (lns : ℕ) (secret : Option (List ℕ)) (hide : Bool) (lt : n < 256)
    (to : r ≡ Lac → (m : ℕ) × (m < 256) × (lns ≡ address_of m)) (none : at w.nodes n ≡ None) (holds : Holds w h) where
  abbrev pub made_node : Node
  made_node = new_node number n r lns secret hide

  made_ok : NodeOk (with_node w n made_node) h n (Some made_node)
  made_ok =
      let nothing = nothing_known w h n made_node lt none holds in
      let unmade = λ (i : ℕ) (made : IsMade (h.accounts n i 0)). not_made w h n made_node lt none holds i 0 made in (
        record {
          node = lt;
          number = refl;
          lns = to;
          ids = record {
            tunnels = λ i made. absurd (unmade i made);
            attempts = λ a is. (let no : false ≡ true = sym (ap is_some (nothing.1.0 a)) ∙ is in absurd cc);
            answers = λ c is. (let no : false ≡ true = sym (ap is_some (nothing.1.1 c)) ∙ is in absurd cc);
            no_attempt = λ i made. nothing.1.0 i;
            no_answer = λ i made. nothing.1.1 i;
            one = λ a is. nothing.1.1 a;
          };
          live = λ i t there. absurd (none-some t (sym (at-none i) ∙ there));
          apart = λ i j t u there too. absurd (none-some t (sym (at-none i) ∙ there));
        },
        record {
          tunnels = λ i b there. absurd (none-some b there);
          apart = λ i j b c there too. absurd (none-some b there);
          calls = λ s c there. absurd (none-some c there);
        },
      )

  pub declared_holds : Holds (with_node w n made_node) h
  declared_holds = grown_holds w h n made_node lt none holds refl refl made_ok

-- ---- nothing

pub empty_holds : Holds empty_world no_history
unfolding standing_of
empty_holds = record {
  accounts = λ n i e. record {
    part = refl;
    some = λ made. absurd (made refl);
    id = λ made. absurd (made refl);
    node = λ made. absurd (made refl);
    peer = omega arith;
    remote = omega arith;
    first_given = omega arith;
    first_taken = omega arith;
    from_none = λ z. (refl, refl);
    spelled = tt;
    told = tt;
    taken = λ place t is lt. absurd (omega (arith, lt));
    ignored = λ place t is le. absurd cc;
    entered = λ made. absurd (made refl);
    declined = λ is. absurd cc;
  };
  attempts = λ n a m is. absurd cc;
  answers = λ n c f is. absurd cc;
  standings = λ n i. record {
    none = λ z. ap (λ q. standing_in q i) (at-none n);
    entered = λ made. absurd (made refl);
    made = (let e = ap (λ (q : Option Node). (standing_in q i).epoch) (at-none n) in omega (arith, e));
    fits = (let e = ap (λ (q : Option Node). (standing_in q i).made) (at-none n) in omega (arith, e));
  };
  nodes = λ n. subst (NodeOk empty_world no_history n) (sym (at-none n)) ((λ i e. refl), ((λ a. refl), (λ c. refl)));
  packets = tt;
}
