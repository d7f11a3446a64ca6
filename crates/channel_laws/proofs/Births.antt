-- A world in which a call is born, or has the birth of the call that is asked for: channels know nothing of it.
use Rattle.std.proofs.Common.{◌≡◌, ⊎_elim, ℕ, refl, sym, ap, ◌∙◌, subst, Some}
use Rattle.id_table.specs.Ids.{at, put}
use Rattle.id_table.specs.Order.{at_new, at_other, same_or_not}
use Rattle.end_model.specs.End.{End}
use Rattle.world_model.specs.World.{World, Node, standing_in, standing_of, answer_in, with_node, with_birth, with_birth_at}
use Rattle.channel_laws.specs.Steps.{with_end}
use Rattle.channel_laws.proofs.Entering.{base_here, base_other, base_same, base_makes}
use Rattle.channel_laws.proofs.Making.{SameNode, same_node}
use Rattle.channel_laws.proofs.Later.{IsAlike}

module _ (w : World) (n : ℕ) (node : Node) (there : at w.nodes n ≡ Some node) (x : End) (born s birth : ℕ) where
  abbrev base : World
  base = record (with_end w n node x) { born = born }

  abbrev node_then : Node
  node_then = record node { end = x; births = put node.births s birth }

  abbrev v : World
  v = with_node base n node_then

  birth_is : with_birth base n s birth ≡ v
  unfolding with_birth
  birth_is = ap (with_birth_at base n s birth) (base_here w n node there x)

  here : at v.nodes n ≡ Some node_then
  here = at_new base.nodes n node_then

  other : (m : ℕ) → (m ≡ n → ⊥) → at v.nodes m ≡ at base.nodes m
  other m o = at_other base.nodes n node_then m o

  standing_same : (m j : ℕ) → standing_of v m j ≡ standing_of (with_end w n node x) m j
  unfolding standing_of
  standing_same m j = ⊎_elim
      (λ (same : m ≡ n).
      ap (λ q. standing_in (at v.nodes q) j) same
      ∙ (ap (λ q. standing_in q j) here ∙ (sym (ap (λ q. standing_in q j) (base_here w n node there x)) ∙ ap (λ q. standing_in (at base.nodes q) j) (sym same))))
      (λ (o : m ≡ n → ⊥). ap (λ q. standing_in q j) (other m o))
      (same_or_not m n)

  makes_same : (m c : ℕ) → answer_in (at v.nodes m) c ≡ answer_in (at base.nodes m) c
  makes_same m c = ⊎_elim
      (λ (same : m ≡ n).
      ap (λ q. answer_in (at v.nodes q) c) same
      ∙ (ap (λ q. answer_in q c) here ∙ (sym (ap (λ q. answer_in q c) (base_here w n node there x)) ∙ ap (λ q. answer_in (at base.nodes q) c) (sym same))))
      (λ (o : m ≡ n → ⊥). ap (λ q. answer_in q c) (other m o))
      (same_or_not m n)

  alike_there : IsAlike w v n node x
  alike_there = record {
    standings = λ m j. standing_same m j ∙ base_same w n node there x m j;
    makes_as = λ m c. makes_same m c ∙ base_makes w n node there x m c;
    packets = refl;
    others = λ m o. subst (SameNode (at w.nodes m)) (sym (other m o ∙ base_other w n node there x m o)) (same_node (at w.nodes m));
    own = node_then;
    own_is = here;
    end_is = refl;
    checkpoint_is = refl;
  }

  pub birth_alike : IsAlike w (with_birth base n s birth) n node x
  birth_alike = subst (λ q. IsAlike w q n node x) (sym birth_is) alike_there
