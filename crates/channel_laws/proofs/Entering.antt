-- The world in which a tunnel of a node entered an epoch: its standing and the node's end are other ones, and nothing else is.
use Rattle.std.proofs.Common.{◌≡◌, ⊎_elim, ℕ, sym, ap, ◌∙◌, Some, None}
use Rattle.std.specs.Prelude.{unwrap_or}
use Rattle.id_table.specs.Ids.{at, put}
use Rattle.id_table.specs.Order.{at_new, at_other, same_or_not}
use Rattle.end_model.specs.End.{End}
use Rattle.world_model.specs.declared.standing.Standing.{Standing}
use Rattle.world_model.specs.World.{World, Node, no_standing, standing_in, standing_of, answer_in, with_node, with_standing, with_standing_at, enters_epoch}
use Rattle.channel_laws.specs.Facts.{makes}
use Rattle.channel_laws.specs.Steps.{with_end}

module _ (w : World) (n : ℕ) (node : Node) (there : at w.nodes n ≡ Some node) (x : End) where
  abbrev pub base : World
  base = with_end w n node x

  pub base_here : at base.nodes n ≡ Some (record node { end = x })
  base_here = at_new w.nodes n (record node { end = x })

  base_standing : (i : ℕ) → standing_of base n i ≡ standing_of w n i
  unfolding standing_of
  base_standing i = ap (λ q. standing_in q i) base_here ∙ sym (ap (λ q. standing_in q i) there)

  pub base_other : (m : ℕ) → (m ≡ n → ⊥) → at base.nodes m ≡ at w.nodes m
  base_other m o = at_other w.nodes n (record node { end = x }) m o

  pub base_same : (m j : ℕ) → standing_of base m j ≡ standing_of w m j
  unfolding standing_of
  base_same m j = ⊎_elim
      (λ (same : m ≡ n).
      ap (λ q. standing_in (at base.nodes q) j) same
      ∙ (ap (λ q. standing_in q j) base_here ∙ (sym (ap (λ q. standing_in q j) there) ∙ ap (λ q. standing_in (at w.nodes q) j) (sym same))))
      (λ (o : m ≡ n → ⊥). ap (λ q. standing_in q j) (base_other m o))
      (same_or_not m n)

  pub base_makes : (m c : ℕ) → answer_in (at base.nodes m) c ≡ makes w m c
  base_makes m c = ⊎_elim
      (λ (same : m ≡ n). ap (λ q. answer_in (at base.nodes q) c) same
      ∙ (ap (λ q. answer_in q c) base_here ∙ (sym (ap (λ q. answer_in q c) there) ∙ ap (λ q. answer_in (at w.nodes q) c) (sym same))))
      (λ (o : m ≡ n → ⊥). ap (λ q. answer_in q c) (at_other w.nodes n (record node { end = x }) m o))
      (same_or_not m n)

  module _ (i e : ℕ) where
    abbrev pub entered : Standing
    entered = record (standing_of w n i) { epoch = e; lost = None }

    abbrev pub node_then : Node
    node_then = record node { end = x; standings = put node.standings i entered }

    abbrev pub world_then : World
    world_then = with_node base n node_then

    pub enters_is : enters_epoch base n i e ≡ world_then
    unfolding enters_epoch with_standing
    enters_is =
        ap (λ (s : Standing). with_standing_at base n i (record s { epoch = e; lost = None }) (at base.nodes n)) (base_standing i)
        ∙ ap (with_standing_at base n i entered) base_here

    pub here_then : at world_then.nodes n ≡ Some node_then
    here_then = at_new base.nodes n node_then

    pub other_then : (m : ℕ) → (m ≡ n → ⊥) → at world_then.nodes m ≡ at w.nodes m
    other_then m o = at_other base.nodes n node_then m o ∙ at_other w.nodes n (record node { end = x }) m o

    pub own_standing : standing_of world_then n i ≡ entered
    unfolding standing_of
    own_standing = ap (λ q. standing_in q i) here_then ∙ ap (λ o. unwrap_or o no_standing) (at_new node.standings i entered)

    pub other_standing : (m j : ℕ) → ((m ≡ n) × (j ≡ i) → ⊥) → standing_of world_then m j ≡ standing_of w m j
    unfolding standing_of
    other_standing m j apart = ⊎_elim
        (λ (same : m ≡ n).
        ap (λ q. standing_in (at world_then.nodes q) j) same
        ∙ (ap (λ q. standing_in q j) here_then
        ∙ (ap (λ o. unwrap_or o no_standing) (at_other node.standings i entered j (λ here. apart (same, here)))
        ∙ (sym (ap (λ q. standing_in q j) there) ∙ ap (λ q. standing_in (at w.nodes q) j) (sym same)))))
        (λ (o : m ≡ n → ⊥). ap (λ q. standing_in q j) (other_then m o))
        (same_or_not m n)

    pub makes_then : (m c : ℕ) → makes world_then m c ≡ makes w m c
    makes_then m c = ⊎_elim
        (λ (same : m ≡ n).
        ap (λ q. answer_in (at world_then.nodes q) c) same
        ∙ (ap (λ q. answer_in q c) here_then ∙ (sym (ap (λ q. answer_in q c) there) ∙ ap (λ q. answer_in (at w.nodes q) c) (sym same))))
        (λ (o : m ≡ n → ⊥). ap (λ q. answer_in q c) (other_then m o))
        (same_or_not m n)
