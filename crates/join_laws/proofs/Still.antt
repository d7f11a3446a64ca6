-- A move that the machine has none for: of a tunnel no more is seen than its state and its recovery tunnel, and of a call than its state
-- and its
-- peer's session. So the world is joined with the same world of the machine.
use Rattle.std.proofs.Common.{◌≡◌, ◌⊎◌, inl, inr, ⊎_elim, ℕ, ◌<◌, Bool, true, false, List, [], refl, sym, ap, ◌∙◌, subst, Option, Some, None}
use Rattle.std.proofs.lemmas.Option.{same_Some}
use Rattle.std.specs.Prelude.{is_some}
use Rattle.id_table.specs.Ids.{at, put}
use Rattle.id_table.specs.Order.{at_new, at_other, same_or_not}
use Rattle.session_book.specs.declared.record.BookTunnel.{BookTunnel}
use Rattle.session_book.specs.Books.{Kept, tunnel_at}
use Rattle.tunnel_fsm.specs.Rows.{state_number}
use Rattle.end_model.specs.declared.event.Event.{Event}
use Rattle.end_model.specs.declared.moves.Move.{Move}
use Rattle.end_model.specs.Tunnels.{Tunnel, mode_of, is_current}
use Rattle.end_model.specs.End.{End}
use Rattle.world_model.specs.declared.standing.Standing.{Standing}
use Rattle.world_model.specs.World.{World, Node, Sender, Deed}
use Rattle.book_laws.specs.Books.{Mirrors}
use Rattle.epoch_machine.specs.Worlds as machine
use Rattle.epoch_machine.specs.Worlds.{all_rules}
use Rattle.epoch_machine.specs.Moves.{goes_on}
use Rattle.session_laws.specs.Names.{name}
use Rattle.channel_laws.specs.Accounts.{History, about, after}
use Rattle.channel_laws.specs.Steps.{with_end, moves_on}
use Rattle.recovery_laws.specs.Joined.{phase_in, TunnelJoined, CallsJoined, NodeJoined, live_in, kept_in, AreJoined}
use Rattle.recovery_laws.specs.Queries.{QueriesJoined}
use Rattle.join_laws.specs.Steps as steps
use Rattle.join_laws.specs.Steps.{with_book, Follows}
use Rattle.join_laws.proofs.Ahead.{behind, left, was, is, others_same, standings, makes_as, births_as, born_as}
use Rattle.join_laws.proofs.Asks.{asks_on, one_asked}
use Rattle.join_laws.proofs.Books.{booked, same_tunnels}
use Rattle.join_laws.proofs.Bounds.{fit_bounded}
use Rattle.join_laws.proofs.Calls.{call_in, LooksLike, AreLike, like_in, like_same, sessions_joined, unchanged}
use Rattle.join_laws.proofs.Finish.{Went, follows}
use Rattle.join_laws.proofs.Letters.{same_phase, same_booked}
use Rattle.join_laws.proofs.Made as made
use Rattle.join_laws.proofs.Roots.{answer_as}

-- ---- the join

module _ (w : World) (h : History) (n : ℕ) (node : Node) (there : at w.nodes n ≡ Some node) (x : End) (k b : Kept) (m : machine.World)
    (joined : AreJoined (with_book w n k) h m)
    (phases : (j : ℕ) → phase_in n (at x.tunnels j) ≡ phase_in n (at node.end.tunnels j))
    (kept : (j : ℕ) → is_some (tunnel_at b j) ≡ is_some (tunnel_at k j))
    (calls : CallsJoined m h n (left node x b)) where
  abbrev v : World
  v = with_book w n k

  abbrev u : World
  u = behind w n node x b

  tunnel_as : (q j : ℕ) (o p : Option Tunnel) (c f : Option BookTunnel) → phase_in q p ≡ phase_in q o → is_some f ≡ is_some c
      → TunnelJoined m v h q j o c → TunnelJoined m u h q j p f
  tunnel_as q j o p c f phase books t = record {
    opener = t.opener;
    node = t.node;
    peer = t.peer;
    learned = t.learned;
    phase = t.phase ∙ sym phase;
    booked = t.booked ∙ sym books;
    entered = t.entered ∙ sym (ap (λ (s : Standing). s.epoch) (standings w n node there x k b q j));
    epochs = t.epochs ∙ sym (ap (λ (s : Standing). s.made) (standings w n node there x k b q j));
    entered_by = t.entered_by;
    sent = t.sent;
    taken = t.taken;
    refused = t.refused;
  }

  tunnels : (q j : ℕ) → q < 256 → j < 65536 → TunnelJoined m u h q j (live_in (at u.nodes q) j) (kept_in (at u.nodes q) j)
  tunnels q j qfits jfits = ⊎_elim
      (λ (e : q ≡ n).
      let old : TunnelJoined m v h n j (at node.end.tunnels j) (tunnel_at k j) =
      subst (λ (o : Option Node). TunnelJoined m v h n j (live_in o j) (kept_in o j)) (was w n node there x k b)
      (subst (λ y. TunnelJoined m v h y j (live_in (at v.nodes y) j) (kept_in (at v.nodes y) j)) e (joined.tunnels q j qfits jfits)) in
      subst (λ y. TunnelJoined m u h y j (live_in (at u.nodes y) j) (kept_in (at u.nodes y) j)) (sym e)
      (subst (λ (o : Option Node). TunnelJoined m u h n j (live_in o j) (kept_in o j)) (sym (is w n node there x k b))
      (tunnel_as n j (at node.end.tunnels j) (at x.tunnels j) (tunnel_at k j) (tunnel_at b j) (phases j) (kept j) old)))
      (λ o.
      subst (λ (y : Option Node). TunnelJoined m u h q j (live_in y j) (kept_in y j)) (sym (others_same w n node there x k b q o))
      (tunnel_as q j (live_in (at v.nodes q) j) (live_in (at v.nodes q) j) (kept_in (at v.nodes q) j) (kept_in (at v.nodes q) j) refl refl
      (joined.tunnels q j qfits jfits)))
      (same_or_not q n)

  nodes : (q : ℕ) → q < 256 → NodeJoined m h q (at u.nodes q)
  nodes q qfits = ⊎_elim
      (λ (e : q ≡ n).
      let old : NodeJoined m h n (Some (booked node k)) =
      subst (NodeJoined m h n) (was w n node there x k b) (subst (λ y. NodeJoined m h y (at v.nodes y)) e (joined.nodes q qfits)) in
      subst (λ y. NodeJoined m h y (at u.nodes y)) (sym e) (subst (NodeJoined m h n) (sym (is w n node there x k b)) (old.0, calls)))
      (λ o. subst (NodeJoined m h q) (sym (others_same w n node there x k b q o)) (joined.nodes q qfits))
      (same_or_not q n)

  pub still_joined : AreJoined (behind w n node x b) h m
  still_joined = record {
    drawn = joined.drawn;
    tunnels = tunnels;
    attempts = joined.attempts;
    answers = λ q c qfits cfits.
        answer_as m m v u h h q c (h.answers q c) refl (makes_as w n node there x k b q c) (λ p j f. refl) (joined.answers q c qfits cfits);
    nodes = nodes;
    births = (
      joined.births.0 ∙ sym (born_as w n node there x k b),
      λ q s qfits sfits. joined.births.1 q s qfits sfits ∙ sym (births_as w n node there x k b q s),
    );
    moves = joined.moves;
    run = joined.run;
  }

-- ---- the end

-- what is left of the tunnel that such a move is about, if there is one: the end is as it was, or the tunnel looks as it did
pub record Like (n : ℕ) (e x : End) (i : ℕ) (t r : Tunnel) : Type 0 where
  pub at_t : at e.tunnels i ≡ Some t
  pub put_is : x.tunnels ≡ put e.tunnels i r
  pub state : r.control.state ≡ t.control.state
  pub current : is_current (mode_of r.recovery) ≡ is_current (mode_of t.recovery)
  pub phase : phase_in n (Some r) ≡ phase_in n (Some t)
  pub query : r.query ≡ t.query
  pub calls : (q : ℕ) → LooksLike (at t.calls q) (at r.calls q)

pub data Left (n : ℕ) (e x : End) (i : ℕ) : Type 0 where
  Same : x.tunnels ≡ e.tunnels → Left n e x i
  Other : (t r : Tunnel) → Like n e x i t r → Left n e x i

module _ (n : ℕ) (e x : End) (i : ℕ) (t r : Tunnel) (o : Like n e x i t r) where
  at_r : at x.tunnels i ≡ Some r
  at_r = ap (λ ts. at ts i) o.put_is ∙ at_new e.tunnels i r

  others_as : (j : ℕ) → (j ≡ i → ⊥) → at x.tunnels j ≡ at e.tunnels j
  others_as j other = ap (λ ts. at ts j) o.put_is ∙ at_other e.tunnels i r j other

  like_phases : (j : ℕ) → phase_in n (at x.tunnels j) ≡ phase_in n (at e.tunnels j)
  like_phases j = ⊎_elim
      (λ (f : j ≡ i).
      ap (λ y. phase_in n (at x.tunnels y)) f
      ∙ (ap (phase_in n) at_r ∙ (o.phase ∙ sym (ap (λ y. phase_in n (at e.tunnels y)) f ∙ ap (phase_in n) o.at_t))))
      (λ other. ap (phase_in n) (others_as j other))
      (same_or_not j i)

  like_kept : (k b : Kept) → Mirrors e k → Mirrors x b → (j : ℕ) → is_some (tunnel_at b j) ≡ is_some (tunnel_at k j)
  like_kept k b old new j = ⊎_elim
      (λ (f : j ≡ i).
      ap (λ y. is_some (tunnel_at b y)) f
      ∙ (same_booked e x k b old new i t r o.at_t at_r o.state ∙ sym (ap (λ y. is_some (tunnel_at k y)) f)))
      (λ other. ap (λ y. is_some y) (same_tunnels e x k b old new j (others_as j other)))
      (same_or_not j i)

  like_calls : (q : ℕ) → AreLike e x q
  like_calls q = like_in e x i t r q o.at_t at_r others_as (o.calls q)

-- ---- the moves

module _ (w : World) (h : History) (n : ℕ) (node : Node) (sender : Option Sender) (moment : ℕ) (ev : Event) (m : Move) (x : End) (d : Deed)
    (k : Kept) (j : machine.World) (q : steps.IsMade w h n node sender moment ev m x d k j) (b : Kept) (new : Mirrors x b)
    (same : moves_on w n node m x ≡ with_end w n node x) (history : after h d ≡ h) (ids : x.session_ids ≡ node.end.session_ids) where
  abbrev before : World
  before = with_book w n k

  abbrev later : World
  later = behind w n node x b

  phases_by : (i : ℕ) → Left n node.end x i → (p : ℕ) → phase_in n (at x.tunnels p) ≡ phase_in n (at node.end.tunnels p)
  phases_by i (Same is) p = ap (λ ts. phase_in n (at ts p)) is
  phases_by i (Other t r o) p = like_phases n node.end x i t r o p

  kept_by : (i : ℕ) → Left n node.end x i → (p : ℕ) → is_some (tunnel_at b p) ≡ is_some (tunnel_at k p)
  kept_by i (Same is) p = ap (λ y. is_some y) (same_tunnels node.end x k b q.mirrors new p (ap (λ ts. at ts p) is))
  kept_by i (Other t r o) p = like_kept n node.end x i t r o k b q.mirrors new p

  calls_by : (i : ℕ) → Left n node.end x i → (s : ℕ) → AreLike node.end x s
  calls_by i (Same is) s = λ p. like_same _ _ (ap (λ ts. call_in (at ts p) s) is)
  calls_by i (Other t r o) s = like_calls n node.end x i t r o s

  queries_by : (i : ℕ) → Left n node.end x i → QueriesJoined later h j
  queries_by i (Same is) = asks_on before later h h j j (record {
    peers = λ p f. refl;
    asks = λ y s. refl;
    held = λ y f s. refl;
    entered = λ y. refl;
    asked = one_asked w n node q.moved.there x k b i (λ p other. ap (λ ts. at ts p) is)
        (λ r at_r current three. (r, sym (ap (λ ts. at ts i) is) ∙ at_r, current, three, refl));
  }) q.joined.queries
  queries_by i (Other t r o) = asks_on before later h h j j (record {
    peers = λ p f. refl;
    asks = λ y s. refl;
    held = λ y f s. refl;
    entered = λ y. refl;
    asked = one_asked w n node q.moved.there x k b i (others_as n node.end x i t r o)
        (λ f at_f current three.
        (let one : r ≡ f = same_Some r f (sym (at_r n node.end x i t r o) ∙ at_f) in (
          t,
          o.at_t,
          sym o.current ∙ (ap (λ (y : Tunnel). is_current (mode_of y.recovery)) one ∙ current),
          ap state_number (sym o.state) ∙ (ap (λ (y : Tunnel). state_number y.control.state) one ∙ three),
          ap (λ (y : Tunnel). y.query) (sym one) ∙ o.query,
        )));
  }) q.joined.queries

  went : Went ev n j j
  unfolding goes_on
  went = record { moves = []; own = tt; heard = tt; goes = refl }

  pub still_follows : (i : ℕ) → Left n node.end x i → Follows ev (with_book (moves_on w n node m x) n b) (after h d) n j
  still_follows i o = follows ev w h n node m x d k b j j same went
      (λ js goes.
      subst (λ g. AreJoined later g j) (sym history)
      (still_joined w h n node q.moved.there x k b j q.joined.joined (phases_by i o) (kept_by i o)
      (sessions_joined node x k b j j h h n
      (unchanged node x k b j j h h n q.mirrors new (fit_bounded x q.fit) (λ p. refl) refl refl ids (calls_by i o))
      (made.calls_before w h n node sender moment ev m x d k j q))))
      (subst (λ g. QueriesJoined later g j) (sym history) (queries_by i o)) q.joined.named
