-- What a step of one node does to the nodes: a new end, and at most one birth.
use Rattle.std.proofs.Common.{◌≡◌, ⊎_elim, ℕ, ◌+◌, ◌-◌, ◌^◌, ◌<◌, List, refl, ◌∙◌, Option, Some, None, arith}
use Rattle.std.specs.Prelude.{min}
use Rattle.id_table.specs.Ids.{at, put}
use Rattle.id_table.specs.Order.{same_or_not}
use Rattle.end_names.specs.declared.role.Role.{Role}
use Rattle.end_names.specs.declared.role.Role.TheVariants.{Lns}
use Rattle.world_model.specs.World.{World, Node, birth_in, is_born, with_birth, birth_of}
use Rattle.frame_laws.proofs.Facts.{Nodes, Born, Plays, Grows, birth_in_node}

-- ---- births

abbrev pub next_birth : World → ℕ
next_birth w = min (w.born + 1) (2 ^ 64 - 1)

pub some_birth : (w : World) → 0 < next_birth w
some_birth w = grind (arith)

-- a node with one more birth
abbrev pub with_one : Node → ℕ → ℕ → Node
with_one node s b = record node { births = put node.births s b }

pub born_nodes : (w : World) (n s : ℕ) (node : Node) → at w.nodes n ≡ Some node → (is_born w n s).nodes ≡ put w.nodes n (with_one node s (next_birth w))
unfolding is_born with_birth
born_nodes w n s node is = rw is refl

pub born_packets : (w : World) (n s : ℕ) (node : Node) → at w.nodes n ≡ Some node → (is_born w n s).packets ≡ w.packets
unfolding is_born with_birth
born_packets w n s node is = rw is refl

pub born_count : (w : World) (n s : ℕ) (node : Node) → at w.nodes n ≡ Some node → (is_born w n s).born ≡ next_birth w
unfolding is_born with_birth
born_count w n s node is = rw is refl

pub made_count : (w : World) (n s b : ℕ) (node : Node) → at w.nodes n ≡ Some node → (with_birth w n s b).born ≡ w.born
unfolding with_birth
made_count w n s b node is = rw is refl

pub made_nodes : (w : World) (n s b : ℕ) (node : Node) → at w.nodes n ≡ Some node → (with_birth w n s b).nodes ≡ put w.nodes n (with_one node s b)
unfolding with_birth
made_nodes w n s b node is = rw is refl

pub made_packets : (w : World) (n s b : ℕ) (node : Node) → at w.nodes n ≡ Some node → (with_birth w n s b).packets ≡ w.packets
unfolding with_birth
made_packets w n s b node is = rw is refl

-- ---- nodes

-- one node is changed
pub record Changed (ns ms : Nodes) (n : ℕ) (old new : Node) : Type 0 where
  pub was : at ns n ≡ Some old
  pub is : at ms n ≡ Some new
  pub others : (m : ℕ) → (m ≡ n → ⊥) → at ms m ≡ at ns m
  pub role : new.end.role ≡ old.end.role
  pub births : (s b : ℕ) → at old.births s ≡ Some b → at new.births s ≡ Some b

pub born_at : (ns : Nodes) (n s b : ℕ) (node : Node) → at ns n ≡ Some node → at node.births s ≡ Some b → Born ns n s b
born_at ns n s b node is h = rw is h

pub birth_there : (ns : Nodes) (n s b : ℕ) (node : Node) → at ns n ≡ Some node → Born ns n s b → at node.births s ≡ Some b
birth_there ns n s b node is h = rw is at h

pub plays_at : (ns : Nodes) (n : ℕ) (r : Role) (node : Node) → at ns n ≡ Some node → node.end.role ≡ r → Plays ns n r
plays_at ns n r node is h = rw (is, h) refl

pub birth_is : (w : World) (n s b : ℕ) → Born w.nodes n s b → birth_of w n s ≡ b
unfolding birth_of
birth_is w n s b h = by (at w.nodes n) h
  where
    by : (o : Option Node) → birth_in_node o s ≡ Some b → birth_in o s ≡ b
    by None h = absurd (cc)
    by (Some node) h = rw h refl

pub role_there : (ns : Nodes) (n : ℕ) (r : Role) (node : Node) → at ns n ≡ Some node → Plays ns n r → node.end.role ≡ r
role_there ns n r node is h = let g : Some node.end.role ≡ Some r = rw is at h in cc

pub grows : (ns ms : Nodes) (n : ℕ) (old new : Node) → Changed ns ms n old new → Grows ns ms
grows ns ms n old new c =
    record {
      births = λ m s b h. ⊎_elim
          (λ e. rw e (born_at ms n s b new c.is (c.births s b (birth_there ns n s b old c.was (rw e at h)))))
          (λ o. rw (c.others m o) h) (same_or_not m n);
      roles = λ m r h. ⊎_elim
          (λ e. rw e (plays_at ms n r new c.is (c.role ∙ role_there ns n r old c.was (rw e at h))))
          (λ o. rw (c.others m o) h) (same_or_not m n);
    }

-- the births of a node are of sessions below a bound
abbrev pub BirthsBelow : ℕ → List (ℕ × ℕ) → Type 0
BirthsBelow bound bs = (s b : ℕ) → at bs s ≡ Some b → (s < bound) × (0 < b)

-- what a step adds to the births: nothing, one more of a LAC, or one that an LNS copies
pub data Adds (w : World) (old : Node) (births : List (ℕ × ℕ)) (born : ℕ) : Type 0 where
  NoBirth : births ≡ old.births → born ≡ w.born → Adds w old births born
  NextBirth : (s : ℕ) → births ≡ put old.births s (next_birth w) → born ≡ next_birth w → Adds w old births born
  SameBirth : (s b m q : ℕ) → births ≡ put old.births s b → born ≡ w.born → Born w.nodes m q b → old.end.role ≡ Lns → Adds w old births born
