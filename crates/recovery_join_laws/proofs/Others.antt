-- What the tunnels ask for is joined again where one tunnel of a node asks for something else: what that asks for is told, and no other
-- asks for anything else than before, in the end and in the machine.
use Rattle.std.proofs.Common.{◌≡◌, ⊎_elim, ℕ, ◌<◌, true, refl, sym, ap, ◌∙◌, subst, Some}
use Rattle.std.proofs.lemmas.Option.{same_Some}
use Rattle.id_table.specs.Ids.{at}
use Rattle.id_table.specs.Order.{at_new, at_other, same_or_not}
use Rattle.session_book.specs.Books.{Kept}
use Rattle.tunnel_fsm.specs.Rows.{state_number}
use Rattle.end_model.specs.Tunnels.{Tunnel, mode_of, is_current}
use Rattle.end_model.specs.End.{End}
use Rattle.world_model.specs.World.{World, Node, birth_in, birth_of}
use Rattle.node_laws.specs.Nodes.{HoldsNode}
use Rattle.epoch_machine.specs.Worlds as machine
use Rattle.session_laws.specs.Names.{name}
use Rattle.session_laws.proofs.Names.{other_name}
use Rattle.channel_laws.specs.Accounts.{History}
use Rattle.channel_laws.specs.Epochs.{IsLive}
use Rattle.channel_laws.specs.Steps.{with_end}
use Rattle.recovery_laws.specs.Queries.{QueryJoined, QueriesJoined}
use Rattle.join_laws.specs.Steps.{with_book}
use Rattle.join_laws.proofs.Asks.{query_as}
use Rattle.join_laws.proofs.Books.{booked}
use Rattle.join_laws.proofs.Bounds.{Bounded, bounded}
use Rattle.join_laws.proofs.OneTunnel.{SameNode, same_node, this_or_not}
use Rattle.recovery_join_laws.proofs.Behind as behind
use Rattle.recovery_join_laws.proofs.Behind.{Leads}

-- the world behind a move that counts no epochs
pub end_leads : (w : World) (n : ℕ) (node : Node) → at w.nodes n ≡ Some node → (x : End) → Leads w (with_end w n node x) n node x
unfolding birth_of
end_leads w n node there x = record {
  after = record node { end = x };
  is = here;
  end = refl;
  up = refl;
  others = λ q o. subst (SameNode (at w.nodes q)) (sym (at_other w.nodes n (record node { end = x }) q o)) (same_node (at w.nodes q));
  born = refl;
  births = λ q s. ⊎_elim
      (λ (same : q ≡ n).
      ap (λ y. birth_in (at (with_end w n node x).nodes y) s) same
      ∙ (ap (λ o. birth_in o s) here ∙ sym (ap (λ y. birth_in (at w.nodes y) s) same ∙ ap (λ o. birth_in o s) there)))
      (λ o. ap (λ y. birth_in y s) (at_other w.nodes n (record node { end = x }) q o))
      (same_or_not q n);
}
  where
    here : at (with_end w n node x).nodes n ≡ Some (record node { end = x })
    here = at_new w.nodes n (record node { end = x })

-- the id of a live tunnel has 16 bits
pub live_fits : (w : World) (n : ℕ) (node : Node) → at w.nodes n ≡ Some node → (k : Kept) → Bounded node.end
    → ((q : ℕ) (c : Node) → (q ≡ n → ⊥) → at (with_book w n k).nodes q ≡ Some c → HoldsNode c) → at (with_book w n k).nodes n
    ≡ Some (booked node k)
    → (q p : ℕ) (y : Tunnel) → IsLive (with_book w n k) q p y → p < 65536
live_fits w n node there k bounds nodes was q p y live = ⊎_elim
    (λ (same : q ≡ n).
    let node_is : booked node k ≡ live.node =
    same_Some (booked node k) live.node (sym was ∙ (ap (λ a. at (with_book w n k).nodes a) (sym same) ∙ live.is)) in
    bounds.tunnels p y (ap (λ (a : Node). at a.end.tunnels p) node_is ∙ live.there))
    (λ apart. (bounded live.node (nodes q live.node apart live.is)).tunnels p y live.there)
    (same_or_not q n)

pub record AsksApart (w v : World) (h g : History) (n : ℕ) (node : Node) (x : End) (k : Kept) (j z : machine.World) (i : ℕ) : Type 0 where
  pub there : at w.nodes n ≡ Some node
  pub leads : Leads w v n node x
  pub id_fits : i < 65536
  pub bounds : Bounded node.end
  pub nodes : (q : ℕ) (c : Node) → (q ≡ n → ⊥) → at w.nodes q ≡ Some c → HoldsNode c
  pub same : (p : ℕ) → (p ≡ i → ⊥) → at x.tunnels p ≡ at node.end.tunnels p
  pub peers : (q p : ℕ) → (g.accounts q p 0).peer ≡ (h.accounts q p 0).peer
  pub entered : (y : ℕ) → (y ≡ name n i → ⊥) → z.tunnels.entered y ≡ j.tunnels.entered y
  pub asks : (y : ℕ) → (y ≡ name n i → ⊥) → (s : ℕ) → z.calls.asks y s ≡ j.calls.asks y s
  pub held : (y : ℕ) → (y ≡ name n i → ⊥) → (f s : ℕ) → z.calls.held y f s ≡ j.calls.held y f s
  -- what is told of the tunnel that asks for something else
  pub own : (r : Tunnel) → at x.tunnels i ≡ Some r → is_current (mode_of r.recovery) ≡ true → state_number r.control.state ≡ 3
      → QueryJoined z n i (g.accounts n i 0).peer r

pub asks_apart : (w v : World) (h g : History) (n : ℕ) (node : Node) (x : End) (k b : Kept) (j z : machine.World) (i : ℕ)
    → AsksApart w v h g n node x k j z i → QueriesJoined (with_book w n k) h j → QueriesJoined (with_book v n b) g z
asks_apart w v h g n node x k b j z i o queries q p y live current three = ⊎_elim
    (λ (same : (q ≡ n) × (p ≡ i)).
    let here : IsLive (with_book v n b) n i y =
    subst (λ a. IsLive (with_book v n b) n a y) same.1 (subst (λ a. IsLive (with_book v n b) a p y) same.0 live) in
    subst (λ a. QueryJoined z a p (g.accounts a p 0).peer y) (sym same.0)
    (subst (λ a. QueryJoined z n a (g.accounts n a 0).peer y) (sym same.1) (o.own y (at_own y here) current three)))
    (λ apart.
    let was = behind.apart_live w v n node o.there x k b o.leads i o.same q p y apart live in
    let fits = live_fits w n node o.there k o.bounds (behind.nodes_hold w v n node o.there x k b o.leads o.nodes)
    (behind.was w v n node o.there x k b o.leads)
    q p y was in
    let other : name q p ≡ name n i → ⊥ = other_name q p n i fits o.id_fits apart in
    subst (λ a. QueryJoined z q p a y) (sym (o.peers q p))
    (query_as j z q p (h.accounts q p 0).peer y y refl (o.asks (name q p) other)
    (λ a. o.held (name q p) other (z.tunnels.entered (name q p)) a ∙ ap (λ f. j.calls.held (name q p) f a) (o.entered (name q p) other))
    (queries q p y was current three)))
    (this_or_not q p n i)
  where
    at_own : (y : Tunnel) → IsLive (with_book v n b) n i y → at x.tunnels i ≡ Some y
    at_own y live =
        let node_is : booked o.leads.after b ≡ live.node =
        same_Some (booked o.leads.after b) live.node (sym (behind.is w v n node o.there x k b o.leads) ∙ live.is) in
        ap (λ (e : End). at e.tunnels i) (sym o.leads.end) ∙ (ap (λ (a : Node). at a.end.tunnels i) node_is ∙ live.there)
