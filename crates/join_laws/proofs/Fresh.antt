-- A tunnel gets a new call, of the next session that is drawn: the calls of its node are joined again where the machine's has a new one
-- too.
use Rattle.std.proofs.Common.{◌≡◌, ⊎_elim, ℕ, ◌+◌, ◌<◌, ◌≤◌, true, false, refl, sym, ap, ◌∙◌, subst, Option, Some, None, Ok, arith}
use Rattle.id_source.specs.Spaces.{Space, takes_id, after_id, draw_is, next_is}
use Rattle.id_table.specs.Ids.{at}
use Rattle.id_table.specs.Order.{same_or_not}
use Rattle.session_book.specs.Books.{Kept}
use Rattle.end_model.specs.declared.event.Event.{Event}
use Rattle.end_model.specs.declared.moves.Move.{Move}
use Rattle.end_model.specs.declared.tunnel.Call.{Call}
use Rattle.end_model.specs.Calls.{is_up}
use Rattle.end_model.specs.Tunnels.{Tunnel}
use Rattle.end_model.specs.End.{End}
use Rattle.world_model.specs.World.{World, Node, Sender, Deed}
use Rattle.book_laws.specs.Books.{Mirrors}
use Rattle.epoch_machine.specs.Worlds as machine
use Rattle.session_laws.specs.Names.{name, name_of, state_of}
use Rattle.session_laws.proofs.Names.{same_name, name_some}
use Rattle.channel_laws.specs.Accounts.{History}
use Rattle.recovery_laws.specs.Joined.{CallJoined, CallsJoined}
use Rattle.recovery_laws.specs.Queries.{CallsAreNamed}
use Rattle.join_laws.specs.Steps as steps
use Rattle.join_laws.proofs.Ahead.{left}
use Rattle.join_laws.proofs.Books.{booked}
use Rattle.join_laws.proofs.Bounds.{fit_bounded}
use Rattle.join_laws.proofs.Calls.{like_same, sessions_joined}
use Rattle.join_laws.proofs.Made as made
use Rattle.join_laws.proofs.OneCall.{has_session, undrawn_in, one_session}
use Rattle.join_laws.proofs.OneTunnel.{CallStays}

module _ (w : World) (h : History) (n : ℕ) (node : Node) (sender : Option Sender) (moment : ℕ) (ev : Event) (mv : Move) (x : End) (d : Deed)
    (k : Kept) (j : machine.World) (q : steps.IsMade w h n node sender moment ev mv x d k j) (s : ℕ)
    (drawn : takes_id node.end.session_ids ≡ Ok s) where
  session : (s ≡ node.end.session_ids.next) × (s ≤ node.end.session_ids.last)
  session = draw_is node.end.session_ids s drawn

  pub fresh_some : 0 < s
  fresh_some = (let first = q.moved.fit.tables.first_session in let is = session.0 in omega (arith, first, is))

  pub fresh_fits : s < 65536
  fresh_fits =
      let le = session.1 in
      let last = q.moved.fit.session_ids.last in
      omega (arith, le, last)

  before : CallsJoined j h n (booked node k)
  before = made.calls_before w h n node sender moment ev mv x d k j q

  pub fresh_name : 0 < name n s
  fresh_name = name_some n s fresh_some

  -- the name isn't drawn yet
  pub fresh_undrawn : j.calls.drawn (name n s) ≡ false
  fresh_undrawn = before.undrawn s (let is = session.0 in omega (arith, is)) fresh_fits

  -- what is there then
  pub record Freshly (g : History) (b : Kept) (z : machine.World) (i : ℕ) (t r : Tunnel) (c : Call) : Type 0 where
    pub new : Mirrors x b
    pub at_t : at node.end.tunnels i ≡ Some t
    pub at_r : at x.tunnels i ≡ Some r
    pub others : (f : ℕ) → (f ≡ i → ⊥) → at x.tunnels f ≡ at node.end.tunnels f
    pub ids : x.session_ids ≡ after_id node.end.session_ids
    pub sessions : (y : ℕ) → (y ≡ s → ⊥) → at r.calls y ≡ at t.calls y
    pub this : at r.calls s ≡ Some c
    pub peers : (f : ℕ) → (g.accounts n f 0).peer ≡ (h.accounts n f 0).peer
    pub nodes : (y : ℕ) → z.tunnels.node y ≡ j.tunnels.node y
    -- in the machine
    pub state : z.calls.state (name n s) ≡ state_of c.state
    pub tunnel : z.calls.tunnel (name n s) ≡ name n i
    pub remote : z.calls.remote (name n s) ≡ name_of (h.accounts n i 0).peer c.remote
    pub in_book : z.calls.booked (name n s) ≡ is_up c.state
    pub stays : (y : ℕ) → (y ≡ name n s → ⊥) → CallStays j z y

  module _ (g : History) (b : Kept) (z : machine.World) (i : ℕ) (t r : Tunnel) (c : Call) (o : Freshly g b z i t r c) where
    next : x.session_ids.next ≡ s + 1
    next = ap (λ (y : Space). y.next) o.ids ∙ ap (λ (y : Space). y.next) (next_is node.end.session_ids s drawn)

    pub fresh_calls : CallsJoined z g n (left node x b)
    fresh_calls = sessions_joined node x k b j z h g n
        (one_session node x k b j z h g n i s t r (record {
          old = q.mirrors;
          new = o.new;
          bounded = fit_bounded x q.fit;
          peers = o.peers;
          nodes = λ y is. o.nodes y ∙ is;
          rises = (let is = session.0 in let then_is = next in omega (arith, is, then_is));
          at_t = o.at_t;
          at_r = o.at_r;
          others = o.others;
          some = fresh_some;
          stays = o.stays;
          calls = λ y other. like_same (at t.calls y) (at r.calls y) (o.sessions y other);
          this = has_session x b z g n i s r c (record {
            new = o.new;
            at_r = o.at_r;
            call = o.this;
            alone = λ f u other there.
                undrawn_in node.end q.moved.fit.tables s (let is = session.0 in omega (arith, is)) f u (sym (o.others f other) ∙ there);
            joined = record {
              some = fresh_some;
              state = o.state;
              tunnel = o.tunnel;
              remote = o.remote ∙ ap (λ y. name_of y c.remote) (sym (o.peers i));
            };
            booked = o.in_book;
            node = o.nodes (name n i)
                ∙ (made.told w h n node sender moment ev mv x d k j q i t o.at_t).node
                (made.live_ok w h n node sender moment ev mv x d k j q i t o.at_t).made;
            below = (let then_is = next in omega (arith, then_is));
          });
        }))
        before

    pub fresh_stay : (p y : ℕ) → (p ≡ n → ⊥) → p < 256 → y < 65536 → CallStays j z (name p y)
    fresh_stay p y off pfits yfits = o.stays (name p y) (λ same. off (same_name p y n s yfits fresh_fits same).0)

  -- it has a name
  pub fresh_named : (z : machine.World) → ((y : ℕ) → (y ≡ name n s → ⊥) → CallStays j z y) → CallsAreNamed z
  fresh_named z stays y is = ⊎_elim
      (λ (e : y ≡ name n s). (n, s, made.node_fits w h n node sender moment ev mv x d k j q, fresh_fits, e))
      (λ other. q.joined.named y (sym (stays y other).drawn ∙ is))
      (same_or_not y (name n s))
