-- The worlds before and behind a move of a node that gives no birth, and makes and enters no epoch: each with a book of the node's end.
-- All but the
-- node's end and its book is the same in both.
use Rattle.std.proofs.Common.{◌≡◌, ⊎_elim, ℕ, refl, sym, ap, ◌∙◌, subst, Option, Some, None}
use Rattle.std.specs.Prelude.{is_some}
use Rattle.id_table.specs.Ids.{at}
use Rattle.id_table.specs.Order.{at_new, at_other, same_or_not}
use Rattle.session_book.specs.Books.{Kept, tunnel_at}
use Rattle.end_model.specs.End.{End}
use Rattle.world_model.specs.declared.standing.Standing.{Standing}
use Rattle.world_model.specs.World.{World, Node, standing_in, standing_of, birth_in, birth_of, answer_in}
use Rattle.book_laws.specs.Books.{Mirrors}
use Rattle.node_laws.specs.Nodes.{HoldsNode}
use Rattle.channel_laws.specs.Facts.{makes}
use Rattle.channel_laws.specs.Steps.{with_end}
use Rattle.join_laws.specs.Steps.{with_book}
use Rattle.join_laws.proofs.Books.{booked, book_here, book_other, book_born, same_tunnels}
use Rattle.join_laws.proofs.OneTunnel.{SameNode, same_node}

abbrev pub behind : World → ℕ → Node → End → Kept → World
behind w n node x b = with_book (with_end w n node x) n b

-- the node behind the move
abbrev pub left : Node → End → Kept → Node
left node x b = booked (record node { end = x }) b

module _ (w : World) (n : ℕ) (node : Node) (there : at w.nodes n ≡ Some node) (x : End) (k b : Kept) where
  abbrev v : World
  v = with_book w n k

  abbrev u : World
  u = behind w n node x b

  pub was : at (with_book w n k).nodes n ≡ Some (booked node k)
  was = book_here w n k node there

  end_there : at (with_end w n node x).nodes n ≡ Some (record node { end = x })
  end_there = at_new w.nodes n (record node { end = x })

  pub is : at (behind w n node x b).nodes n ≡ Some (left node x b)
  is = book_here (with_end w n node x) n b (record node { end = x }) end_there

  pub others_same : (q : ℕ) → (q ≡ n → ⊥) → at (behind w n node x b).nodes q ≡ at (with_book w n k).nodes q
  others_same q o =
      book_other (with_end w n node x) n b (record node { end = x }) end_there q o
      ∙ (at_other w.nodes n (record node { end = x }) q o ∙ sym (book_other w n k node there q o))

  pub others : (q : ℕ) → (q ≡ n → ⊥) → SameNode (at (with_book w n k).nodes q) (at (behind w n node x b).nodes q)
  others q o = subst (SameNode (at v.nodes q)) (sym (others_same q o)) (same_node (at v.nodes q))

  pub nodes_hold : ((q : ℕ) (c : Node) → (q ≡ n → ⊥) → at w.nodes q ≡ Some c → HoldsNode c) → (q : ℕ) (c : Node) → (q ≡ n → ⊥)
      → at (with_book w n k).nodes q ≡ Some c → HoldsNode c
  nodes_hold hold q c o found = hold q c o (sym (book_other w n k node there q o) ∙ found)

  by_node : {X : Type 0} (f : Option Node → X) → f (Some (left node x b)) ≡ f (Some (booked node k)) → (q : ℕ)
      → f (at u.nodes q) ≡ f (at v.nodes q)
  by_node f same q = ⊎_elim
      (λ (e : q ≡ n). ap (λ y. f (at u.nodes y)) e ∙ (ap f is ∙ (same ∙ sym (ap (λ y. f (at v.nodes y)) e ∙ ap f was))))
      (λ o. ap f (others_same q o))
      (same_or_not q n)

  pub standings : (q j : ℕ) → standing_of (behind w n node x b) q j ≡ standing_of (with_book w n k) q j
  unfolding standing_of
  standings q j = by_node (λ o. standing_in o j) refl q

  pub makes_as : (q c : ℕ) → makes (behind w n node x b) q c ≡ makes (with_book w n k) q c
  makes_as q c = by_node (λ o. answer_in o c) refl q

  pub births_as : (q s : ℕ) → birth_of (behind w n node x b) q s ≡ birth_of (with_book w n k) q s
  unfolding birth_of
  births_as q s = by_node (λ o. birth_in o s) refl q

  pub born_as : (behind w n node x b).born ≡ (with_book w n k).born
  born_as = book_born (with_end w n node x) n b (record node { end = x }) end_there ∙ sym (book_born w n k node there)

  pub kept : Mirrors node.end k → Mirrors x b → (j : ℕ) → at x.tunnels j ≡ at node.end.tunnels j
      → is_some (tunnel_at b j) ≡ is_some (tunnel_at k j)
  kept old new j same = ap (λ o. is_some o) (same_tunnels node.end x k b old new j same)

-- before the move: with a book the world keeps the same of tunnels and answers
module _ (w : World) (n : ℕ) (node : Node) (there : at w.nodes n ≡ Some node) (k : Kept) where
  by_book : {X : Type 0} (f : Option Node → X) → f (Some (booked node k)) ≡ f (Some node) → (q : ℕ)
      → f (at (with_book w n k).nodes q) ≡ f (at w.nodes q)
  by_book f same q = ⊎_elim
      (λ (e : q ≡ n).
      ap (λ y. f (at (with_book w n k).nodes y)) e
      ∙ (ap f (book_here w n k node there) ∙ (same ∙ sym (ap (λ y. f (at w.nodes y)) e ∙ ap f there))))
      (λ o. ap f (book_other w n k node there q o))
      (same_or_not q n)

  pub book_standings : (q j : ℕ) → standing_of (with_book w n k) q j ≡ standing_of w q j
  unfolding standing_of
  book_standings q j = by_book (λ o. standing_in o j) refl q

  pub book_makes : (q c : ℕ) → makes (with_book w n k) q c ≡ makes w q c
  book_makes q c = by_book (λ o. answer_in o c) refl q

-- and so with another end
module _ (w : World) (n : ℕ) (node : Node) (there : at w.nodes n ≡ Some node) (x : End) where
  pub end_standings : (q j : ℕ) → standing_of (with_end w n node x) q j ≡ standing_of w q j
  unfolding standing_of
  end_standings q j = ⊎_elim
      (λ (e : q ≡ n).
      ap (λ y. standing_in (at (with_end w n node x).nodes y) j) e
      ∙ (ap (λ o. standing_in o j) (at_new w.nodes n (record node { end = x })) ∙ sym (ap (λ y. standing_in (at w.nodes y) j) e
      ∙ ap (λ o. standing_in o j) there)))
      (λ o. ap (λ k. standing_in k j) (at_other w.nodes n (record node { end = x }) q o))
      (same_or_not q n)

  pub end_makes : (q c : ℕ) → makes (with_end w n node x) q c ≡ makes w q c
  end_makes q c = ⊎_elim
      (λ (e : q ≡ n).
      ap (λ y. answer_in (at (with_end w n node x).nodes y) c) e
      ∙ (ap (λ o. answer_in o c) (at_new w.nodes n (record node { end = x })) ∙ sym (ap (λ y. answer_in (at w.nodes y) c) e
      ∙ ap (λ o. answer_in o c) there)))
      (λ o. ap (λ k. answer_in k c) (at_other w.nodes n (record node { end = x }) q o))
      (same_or_not q n)
