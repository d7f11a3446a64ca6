-- What becomes of a world where it counts another epoch of a tunnel, or of an answer: of each node all else is as it was.
use Rattle.std.proofs.Common.{◌≡◌, ⊎_elim, ℕ, refl, sym, ap, ◌∙◌, subst, Option, Some, None}
use Rattle.std.specs.Prelude.{unwrap_or}
use Rattle.id_table.specs.Ids.{at, put}
use Rattle.id_table.specs.Order.{at_new, at_other, same_or_not}
use Rattle.world_model.specs.declared.standing.Standing.{Standing}
use Rattle.world_model.specs.World.{World, Node, no_standing, standing_in, standing_of, answer_in, birth_in, birth_of, with_node, with_standing, with_standing_at, with_answer_at}
use Rattle.channel_laws.specs.Facts.{makes}

-- ---- nodes

-- a node of which the world keeps other things about tunnels and answers
abbrev pub RestSame : Option Node → Option Node → Type 0
RestSame None None = Unit {0}
RestSame None (Some b) = ⊥
RestSame (Some a) None = ⊥
RestSame (Some a) (Some b) = (b.end ≡ a.end) × (b.checkpoint ≡ a.checkpoint) × (b.up ≡ a.up) × (b.births ≡ a.births)

pub rest_same : (o : Option Node) → RestSame o o
rest_same None = tt
rest_same (Some a) = (refl, refl, refl, refl)

pub rest_then : (a b c : Option Node) → RestSame a b → RestSame b c → RestSame a c
rest_then None None None p q = tt
rest_then None None (Some c) p q = absurd q
rest_then None (Some b) c p q = absurd p
rest_then (Some a) None c p q = absurd p
rest_then (Some a) (Some b) None p q = absurd q
rest_then (Some a) (Some b) (Some c) p q = (q.0 ∙ p.0, q.1 ∙ p.1, q.2 ∙ p.2, q.3 ∙ p.3)

pub rest_births : (a b : Option Node) → RestSame a b → (s : ℕ) → birth_in b s ≡ birth_in a s
rest_births None None p s = refl
rest_births None (Some b) p s = absurd p
rest_births (Some a) None p s = absurd p
rest_births (Some a) (Some b) p s = ap (λ l. unwrap_or (at l s) 0) p.3

-- the node that is there then
pub record Stays (a : Node) (o : Option Node) : Type 0 where
  pub node : Node
  pub is : o ≡ Some node
  pub end : node.end ≡ a.end
  pub checkpoint : node.checkpoint ≡ a.checkpoint
  pub up : node.up ≡ a.up

pub stays_there : (a : Node) (o : Option Node) → RestSame (Some a) o → Stays a o
stays_there a None p = absurd p
stays_there a (Some b) p = record { node = b; is = refl; end = p.0; checkpoint = p.1; up = p.2 }

-- ---- standings

pub record Counts (w v : World) (n i : ℕ) (s : Standing) : Type 0 where
  pub here : standing_of v n i ≡ s
  pub others : (q j : ℕ) → ((q ≡ n) × (j ≡ i) → ⊥) → standing_of v q j ≡ standing_of w q j
  pub answers : (q c : ℕ) → makes v q c ≡ makes w q c
  pub rest : (q : ℕ) → RestSame (at w.nodes q) (at v.nodes q)
  pub born : v.born ≡ w.born

module _ (w : World) (n i : ℕ) (s : Standing) (node : Node) (there : at w.nodes n ≡ Some node) where
  abbrev new : Node
  new = record node { standings = put node.standings i s }

  abbrev v : World
  v = with_node w n new

  here : at v.nodes n ≡ Some new
  here = at_new w.nodes n new

  by_node : {X : Type 0} (f : Option Node → X) → f (Some new) ≡ f (Some node) → (q : ℕ) → f (at v.nodes q) ≡ f (at w.nodes q)
  by_node f same q = ⊎_elim
      (λ (e : q ≡ n). ap (λ y. f (at v.nodes y)) e ∙ (ap f here ∙ (same ∙ sym (ap (λ y. f (at w.nodes y)) e ∙ ap f there))))
      (λ o. ap f (at_other w.nodes n new q o))
      (same_or_not q n)

  own_is : standing_of v n i ≡ s
  unfolding standing_of
  own_is = ap (λ q. standing_in q i) here ∙ ap (λ o. unwrap_or o no_standing) (at_new node.standings i s)

  others_are : (q j : ℕ) → ((q ≡ n) × (j ≡ i) → ⊥) → standing_of v q j ≡ standing_of w q j
  unfolding standing_of
  others_are q j apart = ⊎_elim
      (λ (same : q ≡ n).
      ap (λ y. standing_in (at v.nodes y) j) same
      ∙ (ap (λ y. standing_in y j) here
      ∙ (ap (λ o. unwrap_or o no_standing) (at_other node.standings i s j (λ y. apart (same, y)))
      ∙ (sym (ap (λ y. standing_in y j) there) ∙ ap (λ y. standing_in (at w.nodes y) j) (sym same)))))
      (λ o. ap (λ y. standing_in y j) (at_other w.nodes n new q o))
      (same_or_not q n)

  rest_are : (q : ℕ) → RestSame (at w.nodes q) (at v.nodes q)
  rest_are q = ⊎_elim
      (λ (same : q ≡ n).
      subst (λ y. RestSame (at w.nodes y) (at v.nodes y)) (sym same)
      (subst (λ y. RestSame y (at v.nodes n)) (sym there) (subst (λ y. RestSame (Some node) y) (sym here) (refl, refl, refl, refl))))
      (λ o. subst (λ y. RestSame (at w.nodes q) y) (sym (at_other w.nodes n new q o)) (rest_same (at w.nodes q)))
      (same_or_not q n)

  pub counts : Counts w (with_standing w n i s) n i s
  unfolding with_standing
  counts = subst (λ y. Counts w y n i s) (sym (ap (with_standing_at w n i s) there)) (record {
    here = own_is;
    others = others_are;
    answers = λ q c. by_node (λ o. answer_in o c) refl q;
    rest = rest_are;
    born = refl;
  })

-- ---- answers

pub record Answered (w v : World) (n c e : ℕ) : Type 0 where
  pub here : makes v n c ≡ e
  pub others : (q a : ℕ) → ((q ≡ n) × (a ≡ c) → ⊥) → makes v q a ≡ makes w q a
  pub standings : (q j : ℕ) → standing_of v q j ≡ standing_of w q j
  pub rest : (q : ℕ) → RestSame (at w.nodes q) (at v.nodes q)
  pub born : v.born ≡ w.born

module _ (w : World) (n c e : ℕ) (node : Node) (there : at w.nodes n ≡ Some node) where
  abbrev told : Node
  told = record node { answers = put node.answers c e }

  abbrev after : World
  after = with_node w n told

  told_here : at after.nodes n ≡ Some told
  told_here = at_new w.nodes n told

  told_node : {X : Type 0} (f : Option Node → X) → f (Some told) ≡ f (Some node) → (q : ℕ) → f (at after.nodes q) ≡ f (at w.nodes q)
  told_node f same q = ⊎_elim
      (λ (e : q ≡ n). ap (λ y. f (at after.nodes y)) e ∙ (ap f told_here ∙ (same ∙ sym (ap (λ y. f (at w.nodes y)) e ∙ ap f there))))
      (λ o. ap f (at_other w.nodes n told q o))
      (same_or_not q n)

  other_answers : (q a : ℕ) → ((q ≡ n) × (a ≡ c) → ⊥) → makes after q a ≡ makes w q a
  other_answers q a apart = ⊎_elim
      (λ (same : q ≡ n).
      ap (λ y. answer_in (at after.nodes y) a) same
      ∙ (ap (λ y. answer_in y a) told_here
      ∙ (ap (λ o. unwrap_or o 0) (at_other node.answers c e a (λ y. apart (same, y)))
      ∙ (sym (ap (λ y. answer_in y a) there) ∙ ap (λ y. answer_in (at w.nodes y) a) (sym same)))))
      (λ o. ap (λ y. answer_in y a) (at_other w.nodes n told q o))
      (same_or_not q n)

  standings_are : (q j : ℕ) → standing_of after q j ≡ standing_of w q j
  unfolding standing_of
  standings_are q j = told_node (λ o. standing_in o j) refl q

  told_rest : (q : ℕ) → RestSame (at w.nodes q) (at after.nodes q)
  told_rest q = ⊎_elim
      (λ (same : q ≡ n).
      subst (λ y. RestSame (at w.nodes y) (at after.nodes y)) (sym same)
      (subst (λ y. RestSame y (at after.nodes n)) (sym there) (subst (λ y. RestSame (Some node) y) (sym told_here) (
        refl,
        refl,
        refl,
        refl,
      ))))
      (λ o. subst (λ y. RestSame (at w.nodes q) y) (sym (at_other w.nodes n told q o)) (rest_same (at w.nodes q)))
      (same_or_not q n)

  pub answered : Answered w (with_answer_at w n c e (at w.nodes n)) n c e
  answered = subst (λ y. Answered w y n c e) (sym (ap (with_answer_at w n c e) there)) (record {
    here = ap (λ y. answer_in y c) told_here ∙ ap (λ o. unwrap_or o 0) (at_new node.answers c e);
    others = other_answers;
    standings = standings_are;
    rest = told_rest;
    born = refl;
  })
