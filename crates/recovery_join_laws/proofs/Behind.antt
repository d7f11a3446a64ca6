-- The worlds before and behind a move by which epochs are made or entered, each with a book of the node's end: but for the node's end and
-- its
-- book they are alike in all that isn't counted of epochs.
use Rattle.std.proofs.Common.{◌≡◌, ⊎_elim, ℕ, ◌≤◌, refl, sym, ap, ◌∙◌, subst, Option, Some, None}
use Rattle.std.proofs.lemmas.Option.{same_Some}
use Rattle.std.specs.Prelude.{is_some}
use Rattle.id_table.specs.Ids.{at}
use Rattle.id_table.specs.Order.{same_or_not}
use Rattle.session_book.specs.Books.{Kept, tunnel_at, call_at}
use Rattle.end_model.specs.Tunnels.{Tunnel}
use Rattle.end_model.specs.End.{End}
use Rattle.world_model.specs.World.{World, Node, birth_in, birth_of}
use Rattle.book_laws.specs.Books.{Mirrors}
use Rattle.node_laws.specs.Nodes.{HoldsNode}
use Rattle.epoch_machine.specs.Worlds as machine
use Rattle.channel_laws.specs.Accounts.{History}
use Rattle.channel_laws.specs.Epochs.{IsLive}
use Rattle.recovery_laws.specs.Joined.{CallsJoined}
use Rattle.join_laws.specs.Steps.{with_book}
use Rattle.join_laws.proofs.Books.{booked, book_here, book_other, book_born, same_tunnels}
use Rattle.join_laws.proofs.OneTunnel.{SameNode}

-- what a move of a node makes of the world, where it counts other epochs
pub record Leads (w v : World) (n : ℕ) (node : Node) (x : End) : Type 0 where
  pub after : Node
  pub is : at v.nodes n ≡ Some after
  pub end : after.end ≡ x
  pub up : after.up ≡ node.up
  pub others : (q : ℕ) → (q ≡ n → ⊥) → SameNode (at w.nodes q) (at v.nodes q)
  pub born : v.born ≡ w.born
  pub births : (q s : ℕ) → birth_of v q s ≡ birth_of w q s

module _ (w : World) (n : ℕ) (node : Node) (there : at w.nodes n ≡ Some node) (k : Kept) where
  -- with another book births are the same
  pub book_births : (q s : ℕ) → birth_of (with_book w n k) q s ≡ birth_of w q s
  unfolding birth_of
  book_births q s = ⊎_elim
      (λ (e : q ≡ n).
      ap (λ y. birth_in (at (with_book w n k).nodes y) s) e
      ∙ (ap (λ o. birth_in o s) (book_here w n k node there)
      ∙ sym (ap (λ y. birth_in (at w.nodes y) s) e ∙ ap (λ o. birth_in o s) there)))
      (λ o. ap (λ y. birth_in y s) (book_other w n k node there q o))
      (same_or_not q n)

module _ (w v : World) (n : ℕ) (node : Node) (there : at w.nodes n ≡ Some node) (x : End) (k b : Kept) (l : Leads w v n node x) where
  pub was : at (with_book w n k).nodes n ≡ Some (booked node k)
  was = book_here w n k node there

  pub is : at (with_book v n b).nodes n ≡ Some (booked l.after b)
  is = book_here v n b l.after l.is

  pub others : (q : ℕ) → (q ≡ n → ⊥) → SameNode (at (with_book w n k).nodes q) (at (with_book v n b).nodes q)
  others q o =
      subst (λ y. SameNode y (at (with_book v n b).nodes q)) (sym (book_other w n k node there q o))
      (subst (SameNode (at w.nodes q)) (sym (book_other v n b l.after l.is q o)) (l.others q o))

  pub nodes_hold : ((q : ℕ) (c : Node) → (q ≡ n → ⊥) → at w.nodes q ≡ Some c → HoldsNode c) → (q : ℕ) (c : Node) → (q ≡ n → ⊥)
      → at (with_book w n k).nodes q ≡ Some c → HoldsNode c
  nodes_hold hold q c o found = hold q c o (sym (book_other w n k node there q o) ∙ found)

  pub tunnels : (j : ℕ) → at x.tunnels j ≡ at node.end.tunnels j → at l.after.end.tunnels j ≡ at node.end.tunnels j
  tunnels j same = ap (λ (e : End). at e.tunnels j) l.end ∙ same

  pub kept : Mirrors node.end k → Mirrors x b → (j : ℕ) → at x.tunnels j ≡ at node.end.tunnels j
      → is_some (tunnel_at b j) ≡ is_some (tunnel_at k j)
  kept old new j same = ap (λ o. is_some o) (same_tunnels node.end x k b old new j same)

  pub born_as : (with_book v n b).born ≡ (with_book w n k).born
  born_as = book_born v n b l.after l.is ∙ (l.born ∙ sym (book_born w n k node there))

  pub births_as : (q s : ℕ) → birth_of (with_book v n b) q s ≡ birth_of (with_book w n k) q s
  births_as q s = book_births v n l.after l.is b q s ∙ (l.births q s ∙ sym (book_births w n node there k q s))

  -- ---- tunnels that ask

  -- a live tunnel of another node is live before the move too
  other_live : (q : ℕ) → (q ≡ n → ⊥) → (y z : Option Node) → at (with_book w n k).nodes q ≡ y → SameNode y z
      → (j : ℕ) (r : Tunnel) (c : Node) → z ≡ Some c
      → at c.end.tunnels j ≡ Some r → IsLive (with_book w n k) q j r
  other_live q o None None found same j r c some at_r = (let no : None ≡ Some c = some in absurd cc)
  other_live q o None (Some d) found same j r c some at_r = absurd same
  other_live q o (Some a) None found same j r c some at_r = absurd same
  other_live q o (Some a) (Some d) found same j r c some at_r =
      let is : d ≡ c = same_Some d c some in
      record {
        node = a;
        is = found;
        there = ap (λ (e : End). at e.tunnels j) (sym same.0)
            ∙ (ap (λ (y : Node). at y.end.tunnels j) is ∙ at_r);
      }

  -- so is another one of the node's; and the one of the move is said to be one that asks for what is told
  module _ (i : ℕ) (same : (j : ℕ) → (j ≡ i → ⊥) → at x.tunnels j ≡ at node.end.tunnels j) where
    pub apart_live : (q j : ℕ) (r : Tunnel) → ((q ≡ n) × (j ≡ i) → ⊥) → IsLive (with_book v n b) q j r → IsLive (with_book w n k) q j r
    apart_live q j r apart live = ⊎_elim
        (λ (e : q ≡ n).
        let here : at (with_book v n b).nodes n ≡ Some live.node = subst (λ y. at (with_book v n b).nodes y ≡ Some live.node) e live.is in
        let node_is : booked l.after b ≡ live.node = same_Some (booked l.after b) live.node (sym is ∙ here) in
        let at_r : at l.after.end.tunnels j ≡ Some r = ap (λ (o : Node). at o.end.tunnels j) node_is ∙ live.there in
        let other : j ≡ i → ⊥ = λ f. apart (e, f) in
        subst (λ y. IsLive (with_book w n k) y j r) (sym e) (record {
          node = booked node k;
          is = was;
          there = sym (tunnels j (same j other)) ∙ at_r;
        }))
        (λ o. other_live q o (at (with_book w n k).nodes q) (at (with_book v n b).nodes q) refl (others q o) j r live.node live.is
        live.there)
        (same_or_not q n)

-- ---- calls

-- what is joined of a node's calls is of its end and its book
pub calls_as : (m : machine.World) (h : History) (n : ℕ) (a c : Node) → c.end ≡ a.end → c.checkpoint.book ≡ a.checkpoint.book
    → CallsJoined m h n a
    → CallsJoined m h n c
calls_as m h n a c end book j = record {
  live = λ i t there s call is. j.live i t (ap (λ (e : End). at e.tunnels i) (sym end) ∙ there) s call is;
  gone = λ s fits none. j.gone s fits (λ i t there. none i t (ap (λ (e : End). at e.tunnels i) end ∙ there));
  kept = λ s call has. j.kept s call (ap (λ (y : Kept). call_at y s) (sym book) ∙ has);
  booked = λ s fits. j.booked s fits ∙ ap (λ (y : Kept). is_some (call_at y s)) (sym book);
  home = j.home;
  undrawn = λ s le fits. j.undrawn s (subst (λ (e : End). e.session_ids.next ≤ s) end le) fits;
  zero = j.zero;
}
