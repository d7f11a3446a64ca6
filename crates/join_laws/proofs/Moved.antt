-- The world behind a move by which epochs are made or entered: with a book of the node's end, all but that end, its book, and what is
-- kept of tunnels and
-- answers is as it was.
use Rattle.std.proofs.Common.{◌≡◌, ⊎_elim, ℕ, ◌≤◌, refl, sym, ap, ◌∙◌, subst, Option, Some, None}
use Rattle.id_table.specs.Ids.{at}
use Rattle.id_table.specs.Order.{at_new, at_other, same_or_not}
use Rattle.std.specs.Prelude.{is_some}
use Rattle.session_book.specs.Books.{Kept, call_at}
use Rattle.end_model.specs.End.{End}
use Rattle.world_model.specs.World.{World, Node, Checkpoint, birth_in, birth_of, standing_of}
use Rattle.epoch_machine.specs.Worlds as machine
use Rattle.channel_laws.specs.Accounts.{History}
use Rattle.channel_laws.specs.Facts.{makes}
use Rattle.channel_laws.specs.Steps.{with_end}
use Rattle.recovery_laws.specs.Joined.{CallsJoined}
use Rattle.join_laws.specs.Steps.{with_book}
use Rattle.join_laws.proofs.Ahead.{book_standings, book_makes}
use Rattle.join_laws.proofs.Books.{booked, book_here, book_other, book_born}
use Rattle.join_laws.proofs.Counting.{RestSame, rest_same, rest_births, Stays, stays_there}
use Rattle.join_laws.proofs.OneTunnel.{SameNode}

-- with a book births are as they were
pub book_births : (w : World) (n : ℕ) (node : Node) → at w.nodes n ≡ Some node → (k : Kept) (q s : ℕ)
    → birth_of (with_book w n k) q s ≡ birth_of w q s
unfolding birth_of
book_births w n node there k q s = ⊎_elim
    (λ (e : q ≡ n).
    ap (λ y. birth_in (at (with_book w n k).nodes y) s) e
    ∙ (ap (λ o. birth_in o s) (book_here w n k node there) ∙ sym (ap (λ y. birth_in (at w.nodes y) s) e ∙ ap (λ o. birth_in o s) there)))
    (λ o. ap (λ y. birth_in y s) (book_other w n k node there q o))
    (same_or_not q n)

seen_so : (a b : Option Node) → RestSame a b → SameNode a b
seen_so None None p = tt
seen_so None (Some b) p = absurd p
seen_so (Some a) None p = absurd p
seen_so (Some a) (Some b) p = (p.0, p.1, p.2)

module _ (w : World) (n : ℕ) (node : Node) (there : at w.nodes n ≡ Some node) (x : End) (k b : Kept) (v : World)
    (rest : (q : ℕ) → RestSame (at (with_end w n node x).nodes q) (at v.nodes q)) (born : v.born ≡ w.born) where
  abbrev base : World
  base = with_end w n node x

  base_here : at base.nodes n ≡ Some (record node { end = x })
  base_here = at_new w.nodes n (record node { end = x })

  -- the node behind the move
  pub left_there : Stays (record node { end = x }) (at v.nodes n)
  left_there = stays_there (record node { end = x }) (at v.nodes n) (subst (λ o. RestSame o (at v.nodes n)) base_here (rest n))

  abbrev pub left : Node
  left = booked left_there.node b

  pub was : at (with_book w n k).nodes n ≡ Some (booked node k)
  was = book_here w n k node there

  pub is : at (with_book v n b).nodes n ≡ Some left
  is = book_here v n b left_there.node left_there.is

  pub up : left.up ≡ (booked node k).up
  up = left_there.up

  pub end_is : left.end ≡ x
  end_is = left_there.end

  pub others : (q : ℕ) → (q ≡ n → ⊥) → SameNode (at (with_book w n k).nodes q) (at (with_book v n b).nodes q)
  others q o =
      subst (λ y. SameNode y (at (with_book v n b).nodes q)) (sym (book_other w n k node there q o))
      (subst (λ y. SameNode (at w.nodes q) y) (sym (book_other v n b left_there.node left_there.is q o))
      (seen_so (at w.nodes q) (at v.nodes q) (subst (λ y. RestSame y (at v.nodes q)) (at_other w.nodes n (record node { end = x }) q o)
      (rest q))))

  base_births : (q s : ℕ) → birth_of base q s ≡ birth_of w q s
  unfolding birth_of
  base_births q s = ⊎_elim
      (λ (e : q ≡ n).
      ap (λ y. birth_in (at base.nodes y) s) e
      ∙ (ap (λ o. birth_in o s) base_here ∙ sym (ap (λ y. birth_in (at w.nodes y) s) e ∙ ap (λ o. birth_in o s) there)))
      (λ o. ap (λ y. birth_in y s) (at_other w.nodes n (record node { end = x }) q o))
      (same_or_not q n)

  moved_births : (q s : ℕ) → birth_of v q s ≡ birth_of base q s
  unfolding birth_of
  moved_births q s = rest_births (at base.nodes q) (at v.nodes q) (rest q) s

  pub births_as : (q s : ℕ) → birth_of (with_book v n b) q s ≡ birth_of (with_book w n k) q s
  births_as q s =
      book_births v n left_there.node left_there.is b q s
      ∙ (moved_births q s ∙ (base_births q s ∙ sym (book_births w n node there k q s)))

  pub born_as : (with_book v n b).born ≡ (with_book w n k).born
  born_as = book_born v n b left_there.node left_there.is ∙ (born ∙ sym (book_born w n k node there))

  pub standings_then : (q j : ℕ) → standing_of (with_book v n b) q j ≡ standing_of v q j
  standings_then q j = book_standings v n left_there.node left_there.is b q j

  pub makes_then : (q c : ℕ) → makes (with_book v n b) q c ≡ makes v q c
  makes_then q c = book_makes v n left_there.node left_there.is b q c

-- ---- calls of a node with the same end and book

pub node_calls : (z : machine.World) (g : History) (n : ℕ) (c d : Node) → d.end ≡ c.end → d.checkpoint.book ≡ c.checkpoint.book
    → CallsJoined z g n c
    → CallsJoined z g n d
node_calls z g n c d end book o = record {
  live = λ j t there s y live. o.live j t (ap (λ (e : End). at e.tunnels j) (sym end) ∙ there) s y live;
  gone = λ s fits none. o.gone s fits (λ j t there. none j t (ap (λ (e : End). at e.tunnels j) end ∙ there));
  kept = λ s y has. o.kept s y (ap (λ f. call_at f s) (sym book) ∙ has);
  booked = λ s fits. o.booked s fits ∙ ap (λ f. is_some (call_at f s)) (sym book);
  home = o.home;
  undrawn = λ s le fits. o.undrawn s (subst (λ (e : End). e.session_ids.next ≤ s) end le) fits;
  zero = o.zero;
}
