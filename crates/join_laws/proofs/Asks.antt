-- What the tunnels ask for is joined again where none asks for anything else than before, in the end and in the machine.
use Rattle.std.proofs.Common.{◌≡◌, ◌⊎◌, ⊎_elim, ℕ, true, List, refl, sym, ap, ◌∙◌, subst, Option, Some, None}
use Rattle.std.proofs.lemmas.Option.{none-some, same_Some}
use Rattle.std.specs.Prelude.{◌==◌}
use Rattle.std.specs.List.{AllByRecursion, list_any}
use Rattle.id_table.specs.Ids.{at}
use Rattle.id_table.specs.Order.{same_or_not}
use Rattle.wire_base.specs.declared.pair.Pair.{Pair}
use Rattle.session_query.specs.Queries.{Asking, left_of}
use Rattle.session_book.specs.Books.{Kept}
use Rattle.tunnel_fsm.specs.Rows.{state_number}
use Rattle.end_model.specs.Tunnels.{Tunnel, mode_of, is_current}
use Rattle.end_model.specs.End.{End}
use Rattle.world_model.specs.World.{World, Node}
use Rattle.book_laws.proofs.Lists.{all_to}
use Rattle.epoch_machine.specs.Worlds as machine
use Rattle.session_laws.specs.Names.{name, name_of}
use Rattle.channel_laws.specs.Accounts.{History}
use Rattle.channel_laws.specs.Epochs.{IsLive}
use Rattle.recovery_laws.specs.Queries.{QueryJoined, QueriesJoined}
use Rattle.join_laws.specs.Steps.{with_book}
use Rattle.join_laws.proofs.Books.{booked}
use Rattle.join_laws.proofs.Ahead.{behind, left, was, is, others_same}

-- of a tunnel that has the same left to ask for
pub query_as : (m z : machine.World) (n i peer : ℕ) (t r : Tunnel) → r.query ≡ t.query
    → ((y : ℕ) → z.calls.asks (name n i) y ≡ m.calls.asks (name n i) y)
    → ((y : ℕ) → z.calls.held (name n i) (z.tunnels.entered (name n i)) y ≡ m.calls.held (name n i) (m.tunnels.entered (name n i)) y)
    → QueryJoined m n i peer t → QueryJoined z n i peer r
query_as m z n i peer t r query asks held q = record {
  asks = λ y. asks y ∙ (q.asks y ∙ ap (λ (f : Asking). list_any (λ (p : Pair). name n p.sender == y) (left_of f)) (sym query));
  held =
      subst
      (λ (f : Asking).
      AllByRecursion
      (λ (p : Pair). z.calls.held (name n i) (z.tunnels.entered (name n i)) (name n p.sender) ≡ name_of peer p.receiver)
      (left_of f))
      (sym query)
      (all_to
      (λ (p : Pair). m.calls.held (name n i) (m.tunnels.entered (name n i)) (name n p.sender) ≡ name_of peer p.receiver)
      (λ (p : Pair). z.calls.held (name n i) (z.tunnels.entered (name n i)) (name n p.sender) ≡ name_of peer p.receiver)
      (λ p e. held (name n p.sender) ∙ e) (left_of t.query) q.held);
}

-- ---- all tunnels

-- one that asks in the world behind the move asked for the same before it
pub record Asked (v : World) (q j : ℕ) (r : Tunnel) : Type 0 where
  pub tunnel : Tunnel
  pub live : IsLive v q j tunnel
  pub current : is_current (mode_of tunnel.recovery) ≡ true
  pub three : state_number tunnel.control.state ≡ 3
  pub query : r.query ≡ tunnel.query

pub record AsksOn (v u : World) (h g : History) (m z : machine.World) : Type 0 where
  pub peers : (q j : ℕ) → (g.accounts q j 0).peer ≡ (h.accounts q j 0).peer
  pub asks : (x y : ℕ) → z.calls.asks x y ≡ m.calls.asks x y
  pub held : (x f y : ℕ) → z.calls.held x f y ≡ m.calls.held x f y
  pub entered : (x : ℕ) → z.tunnels.entered x ≡ m.tunnels.entered x
  pub asked : (q j : ℕ) (r : Tunnel) → IsLive u q j r → is_current (mode_of r.recovery) ≡ true → state_number r.control.state ≡ 3
      → Asked v q j r

pub asks_on : (v u : World) (h g : History) (m z : machine.World) → AsksOn v u h g m z → QueriesJoined v h m → QueriesJoined u g z
asks_on v u h g m z o queries q j r live current three =
    let f = o.asked q j r live current three in
    subst (λ p. QueryJoined z q j p r) (sym (o.peers q j))
    (query_as m z q j (h.accounts q j 0).peer f.tunnel r f.query (o.asks (name q j))
    (λ y. o.held (name q j) (z.tunnels.entered (name q j)) y ∙ ap (λ e. m.calls.held (name q j) e y) (o.entered (name q j)))
    (queries q j f.tunnel f.live f.current f.three))

-- ---- one tunnel of a node becomes another one

module _ (w : World) (n : ℕ) (node : Node) (there : at w.nodes n ≡ Some node) (x : End) (k b : Kept) (i : ℕ)
    (others : (j : ℕ) → (j ≡ i → ⊥) → at x.tunnels j ≡ at node.end.tunnels j) where
  -- where this tunnel asks, it asked for the same
  pub one_asked : ((r : Tunnel) → at x.tunnels i ≡ Some r → is_current (mode_of r.recovery) ≡ true → state_number r.control.state ≡ 3
      → (t : Tunnel) × (at node.end.tunnels i ≡ Some t) × (is_current (mode_of t.recovery) ≡ true) × (state_number t.control.state ≡ 3)
      × (r.query ≡ t.query))
      → (q j : ℕ) (r : Tunnel) → IsLive (behind w n node x b) q j r → is_current (mode_of r.recovery) ≡ true
      → state_number r.control.state ≡ 3
      → Asked (with_book w n k) q j r
  one_asked own q j r live current three = ⊎_elim
      (λ (e : q ≡ n).
      let here : at (behind w n node x b).nodes n ≡ Some live.node = subst (λ y. at (behind w n node x b).nodes y ≡ Some live.node) e
      live.is in
      let same : left node x b ≡ live.node = same_Some (left node x b) live.node (sym (is w n node there x k b) ∙ here) in
      let at_r : at x.tunnels j ≡ Some r = ap (λ (o : Node). at o.end.tunnels j) same ∙ live.there in
      subst (λ y. Asked (with_book w n k) y j r) (sym e) (⊎_elim
      (λ (f : j ≡ i).
      let c = own r (subst (λ y. at x.tunnels y ≡ Some r) f at_r) current three in
      subst (λ y. Asked (with_book w n k) n y r) (sym f) (record {
        tunnel = c.0;
        live = record { node = booked node k; is = was w n node there x k b; there = c.1 };
        current = c.2;
        three = c.3;
        query = c.4;
      }))
      (λ o. record {
        tunnel = r;
        live = record { node = booked node k; is = was w n node there x k b; there = sym (others j o) ∙ at_r };
        current = current;
        three = three;
        query = refl;
      })
      (same_or_not j i)))
      (λ o. record {
        tunnel = r;
        live = record { node = live.node; is = sym (others_same w n node there x k b q o) ∙ live.is; there = live.there };
        current = current;
        three = three;
        query = refl;
      })
      (same_or_not q n)
