-- The world in which an answer made an epoch: what is counted of the two tunnels, and the answers of the node that gave it, are other ones, and nothing else is.
use Rattle.std.proofs.Common.{◌≡◌, ◌⊎◌, inl, inr, ⊎_elim, ℕ, refl, sym, ap, ◌∙◌, subst, Option, Some, None}
use Rattle.std.specs.Prelude.{unwrap_or}
use Rattle.id_table.specs.Ids.{at, put}
use Rattle.id_table.specs.Order.{at_new, at_other, same_or_not}
use Rattle.world_model.specs.declared.standing.Standing.{Standing}
use Rattle.world_model.specs.World.{World, Node, no_standing, standing_in, standing_of, epoch_of, answer_in, with_node, with_standing, with_standing_at, with_answer_at, has_made}

-- a node that has the same end, checkpoint and answers
abbrev pub SameNode : Option Node → Option Node → Type 0
SameNode None None = Unit {0}
SameNode None (Some b) = ⊥
SameNode (Some a) None = ⊥
SameNode (Some a) (Some b) = (b.end ≡ a.end) × (b.checkpoint ≡ a.checkpoint) × (b.answers ≡ a.answers)

pub same_node : (o : Option Node) → SameNode o o
same_node None = tt
same_node (Some a) = (refl, refl, refl)

pub same_answer : (a b : Option Node) → SameNode a b → (c : ℕ) → answer_in b c ≡ answer_in a c
same_answer None None s c = refl
same_answer None (Some b) s c = absurd s
same_answer (Some a) None s c = absurd s
same_answer (Some a) (Some b) s c = ap (λ l. unwrap_or (at l c) 0) s.2

-- the node that is there then
pub record IsThere (a : Node) (o : Option Node) : Type 0 where
  pub node : Node
  pub is : o ≡ Some node
  pub end : node.end ≡ a.end
  pub checkpoint : node.checkpoint ≡ a.checkpoint
  pub answers : node.answers ≡ a.answers

pub there_still : (a : Node) (o : Option Node) → SameNode (Some a) o → IsThere a o
there_still a None s = absurd s
there_still a (Some b) s = record { node = b; is = refl; end = s.0; checkpoint = s.1; answers = s.2 }

pub same_then : (a b c : Option Node) → SameNode a b → SameNode b c → SameNode a c
same_then None None None p q = tt
same_then None None (Some c) p q = absurd q
same_then None (Some b) c p q = absurd p
same_then (Some a) None c p q = absurd p
same_then (Some a) (Some b) None p q = absurd q
same_then (Some a) (Some b) (Some c) p q = (q.0 ∙ p.0, q.1 ∙ p.1, q.2 ∙ p.2)

-- so many epochs count as made of one tunnel, and all else is as it was
pub record MadeOnly (w v : World) (n i e : ℕ) : Type 0 where
  pub epochs : (m j : ℕ) → epoch_of v m j ≡ epoch_of w m j
  pub losts : (m j : ℕ) → (standing_of v m j).lost ≡ (standing_of w m j).lost
  pub own : (node : Node) → at w.nodes n ≡ Some node → (standing_of v n i).made ≡ e
  pub made : (m j : ℕ) → ((standing_of v m j).made ≡ (standing_of w m j).made) ⊎ ((m ≡ n) × (j ≡ i) × ((standing_of v m j).made ≡ e))
  pub others : (m j : ℕ) → ((m ≡ n) × (j ≡ i) → ⊥) → standing_of v m j ≡ standing_of w m j
  pub nodes : (m : ℕ) → SameNode (at w.nodes m) (at v.nodes m)
  pub packets : v.packets ≡ w.packets

module _ (w : World) (n i e : ℕ) where
  abbrev counted : Standing
  counted = record (standing_of w n i) { made = e }

  module _ (node : Node) (there : at w.nodes n ≡ Some node) where
    abbrev put_in : Node
    put_in = record node { standings = put node.standings i counted }

    abbrev v : World
    v = with_node w n put_in

    here : at v.nodes n ≡ Some put_in
    here = at_new w.nodes n put_in

    own_is : standing_of v n i ≡ counted
    unfolding standing_of
    own_is = ap (λ q. standing_in q i) here ∙ ap (λ o. unwrap_or o no_standing) (at_new node.standings i counted)

    others_are : (m j : ℕ) → ((m ≡ n) × (j ≡ i) → ⊥) → standing_of v m j ≡ standing_of w m j
    unfolding standing_of
    others_are m j apart = ⊎_elim
        (λ (same : m ≡ n).
        ap (λ q. standing_in (at v.nodes q) j) same
        ∙ (ap (λ q. standing_in q j) here
        ∙ (ap (λ o. unwrap_or o no_standing) (at_other node.standings i counted j (λ q. apart (same, q)))
        ∙ (sym (ap (λ q. standing_in q j) there) ∙ ap (λ q. standing_in (at w.nodes q) j) (sym same)))))
        (λ (o : m ≡ n → ⊥). ap (λ q. standing_in q j) (at_other w.nodes n put_in m o))
        (same_or_not m n)

    either : (m j : ℕ) → ((m ≡ n) × (j ≡ i)) ⊎ ((m ≡ n) × (j ≡ i) → ⊥)
    either m j = ⊎_elim
        (λ (p : m ≡ n). ⊎_elim (λ (q : j ≡ i). inl (p, q)) (λ no. inr (λ (r : (m ≡ n) × (j ≡ i)). no r.1)) (same_or_not j i))
        (λ no. inr (λ (r : (m ≡ n) × (j ≡ i)). no r.0))
        (same_or_not m n)

    nodes_are : (m : ℕ) → SameNode (at w.nodes m) (at v.nodes m)
    nodes_are m = ⊎_elim
        (λ (same : m ≡ n).
        subst (λ q. SameNode (at w.nodes q) (at v.nodes q)) (sym same)
        (subst (λ q. SameNode q (at v.nodes n)) (sym there) (subst (λ q. SameNode (Some node) q) (sym here) (refl, refl, refl))))
        (λ (o : m ≡ n → ⊥). subst (λ q. SameNode (at w.nodes m) q) (sym (at_other w.nodes n put_in m o)) (same_node (at w.nodes m)))
        (same_or_not m n)

    there_made : MadeOnly w v n i e
    there_made = record {
      epochs = λ m j. ⊎_elim
          (λ (q : (m ≡ n) × (j ≡ i)). rw (q.0, q.1) (ap (λ (s : Standing). s.epoch) own_is))
          (λ o. ap (λ (s : Standing). s.epoch) (others_are m j o))
          (either m j);
      losts = λ m j. ⊎_elim
          (λ (q : (m ≡ n) × (j ≡ i)). rw (q.0, q.1) (ap (λ (s : Standing). s.lost) own_is))
          (λ o. ap (λ (s : Standing). s.lost) (others_are m j o))
          (either m j);
      own = λ x is. ap (λ (s : Standing). s.made) own_is;
      made = λ m j. ⊎_elim
          (λ (q : (m ≡ n) × (j ≡ i)). inr (q.0, q.1, rw (q.0, q.1) (ap (λ (s : Standing). s.made) own_is)))
          (λ o. inl (ap (λ (s : Standing). s.made) (others_are m j o)))
          (either m j);
      others = others_are;
      nodes = nodes_are;
      packets = refl;
    }

  by : (o : Option Node) → at w.nodes n ≡ o → MadeOnly w (with_standing_at w n i counted o) n i e
  by None none = record {
    epochs = λ m j. refl;
    losts = λ m j. refl;
    own = λ x is. (let no : Some x ≡ None = sym is ∙ none in absurd cc);
    made = λ m j. inl refl;
    others = λ m j o. refl;
    nodes = λ m. same_node (at w.nodes m);
    packets = refl;
  }
  by (Some node) there = there_made node there

  pub has_made_only : MadeOnly w (has_made w n i e) n i e
  unfolding with_standing
  has_made_only = by (at w.nodes n) refl

-- the answers of a node have one more
module _ (w : World) (n c e : ℕ) (node : Node) (there : at w.nodes n ≡ Some node) where
  abbrev pub node_answered : Node
  node_answered = record node { answers = put node.answers c e }

  abbrev pub answered : World
  answered = with_node w n node_answered

  pub answers_so : with_answer_at w n c e (at w.nodes n) ≡ answered
  answers_so = ap (with_answer_at w n c e) there

  pub answered_here : at answered.nodes n ≡ Some node_answered
  answered_here = at_new w.nodes n node_answered

  pub answered_other : (m : ℕ) → (m ≡ n → ⊥) → at answered.nodes m ≡ at w.nodes m
  answered_other m o = at_other w.nodes n node_answered m o

  pub answered_standing : (m j : ℕ) → standing_of answered m j ≡ standing_of w m j
  unfolding standing_of
  answered_standing m j = ⊎_elim
      (λ (same : m ≡ n).
      ap (λ q. standing_in (at answered.nodes q) j) same
      ∙ (ap (λ q. standing_in q j) answered_here ∙ (sym (ap (λ q. standing_in q j) there) ∙ ap (λ q. standing_in (at w.nodes q) j) (sym same))))
      (λ (o : m ≡ n → ⊥). ap (λ q. standing_in q j) (answered_other m o))
      (same_or_not m n)

  pub own_answer : answer_in (at answered.nodes n) c ≡ e
  own_answer = ap (λ q. answer_in q c) answered_here ∙ ap (λ o. unwrap_or o 0) (at_new node.answers c e)

  pub other_answer : (m k : ℕ) → ((m ≡ n) × (k ≡ c) → ⊥) → answer_in (at answered.nodes m) k ≡ answer_in (at w.nodes m) k
  other_answer m k apart = ⊎_elim
      (λ (same : m ≡ n).
      ap (λ q. answer_in (at answered.nodes q) k) same
      ∙ (ap (λ q. answer_in q k) answered_here
      ∙ (ap (λ o. unwrap_or o 0) (at_other node.answers c e k (λ q. apart (same, q)))
      ∙ (sym (ap (λ q. answer_in q k) there) ∙ ap (λ q. answer_in (at w.nodes q) k) (sym same)))))
      (λ (o : m ≡ n → ⊥). ap (λ q. answer_in q k) (answered_other m o))
      (same_or_not m n)
