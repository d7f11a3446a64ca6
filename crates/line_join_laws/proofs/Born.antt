-- What a move makes of births doesn't depend on the ends of nodes: two worlds with the same births have the same ones after it.
use Rattle.std.proofs.Common.{◌≡◌, ◌⊎◌, inl, inr, ⊎_elim, ℕ, ◌+◌, true, false, List, [], ◌∷◌, refl, sym, ap, ap₂, ◌∙◌, subst, Option}
use Rattle.std.proofs.Common.{Some, None}
use Rattle.std.specs.Prelude.{is_some, min, unwrap_or, ◌^◌, ◌-◌}
use Rattle.id_table.specs.Ids.{at, put}
use Rattle.id_table.specs.Order.{at_new, at_other, same_or_not}
use Rattle.end_names.specs.Names.{node_of}
use Rattle.end_model.specs.declared.moves.Move.{Move}
use Rattle.end_model.specs.declared.moves.Move.TheVariants as move
use Rattle.end_model.specs.declared.out.Out.{Out}
use Rattle.end_model.specs.declared.out.Out.TheVariants.{Send, Up, Gone, Drop, Cause}
use Rattle.end_model.specs.End.{End}
use Rattle.world_model.specs.declared.standing.Standing.{Standing}
use Rattle.world_model.specs.World.{World, Node, birth_in, birth_of, standing_of, answer_in, with_node, with_birth, with_birth_at}
use Rattle.world_model.specs.World.{is_born, with_standing, with_standing_at, with_answer_at, has_made, makes_epoch, enters_epoch, moved}
use Rattle.world_model.specs.World.{sent, shown, shown_all}
use Rattle.channel_laws.specs.Steps.{with_end}

-- the same nodes are there, and as many calls were born, each with the same birth
pub record AreBorn (v u : World) : Type 0 where
  pub born : u.born ≡ v.born
  pub births : (q s : ℕ) → birth_of u q s ≡ birth_of v q s
  pub there : (q : ℕ) → is_some (at u.nodes q) ≡ is_some (at v.nodes q)

pub born_same : (v : World) → AreBorn v v
born_same v = record { born = refl; births = λ q s. refl; there = λ q. refl }

pub born_back : (v u : World) → AreBorn v u → AreBorn u v
born_back v u g = record { born = sym g.born; births = λ q s. sym (g.births q s); there = λ q. sym (g.there q) }

pub born_on : (a b c : World) → AreBorn a b → AreBorn b c → AreBorn a c
born_on a b c g h = record {
  born = h.born ∙ g.born;
  births = λ q s. h.births q s ∙ g.births q s;
  there = λ q. h.there q ∙ g.there q;
}

-- ---- a node is put in the place of one

module _ (w : World) (n : ℕ) (node new : Node) (was : at w.nodes n ≡ Some node) where
  abbrev v : World
  v = with_node w n new

  by_node : {X : Type 0} (f : Option Node → X) → f (Some new) ≡ f (Some node) → (q : ℕ) → f (at v.nodes q) ≡ f (at w.nodes q)
  by_node f same q = ⊎_elim
      (λ (e : q ≡ n). ap (λ y. f (at v.nodes y)) e ∙ (ap f (at_new w.nodes n new) ∙ (same ∙ sym (ap (λ y. f (at w.nodes y)) e ∙ ap f was))))
      (λ (o : q ≡ n → ⊥). ap f (at_other w.nodes n new q o))
      (same_or_not q n)

  -- with the same births
  pub put_born : new.births ≡ node.births → AreBorn w (with_node w n new)
  unfolding birth_of
  put_born same = record {
    born = refl;
    births = λ q s. by_node (λ o. birth_in o s) (ap (λ l. unwrap_or (at l s) 0) same) q;
    there = λ q. by_node (λ o. is_some o) refl q;
  }

pub end_born : (w : World) (n : ℕ) (node : Node) (x : End) → at w.nodes n ≡ Some node → AreBorn w (with_end w n node x)
end_born w n node x there = put_born w n node (record node { end = x }) there refl

standing_born : (w : World) (n i : ℕ) (s : Standing) → AreBorn w (with_standing w n i s)
unfolding with_standing
standing_born w n i s = by (at w.nodes n) refl
  where
    by : (o : Option Node) → at w.nodes n ≡ o → AreBorn w (with_standing_at w n i s o)
    by None none = born_same w
    by (Some node) there = put_born w n node (record node { standings = put node.standings i s }) there refl

answer_born : (w : World) (n c e : ℕ) → AreBorn w (with_answer_at w n c e (at w.nodes n))
answer_born w n c e = by (at w.nodes n) refl
  where
    by : (o : Option Node) → at w.nodes n ≡ o → AreBorn w (with_answer_at w n c e o)
    by None none = born_same w
    by (Some node) there = put_born w n node (record node { answers = put node.answers c e }) there refl

pub makes_born : (w : World) (n i m j c : ℕ) → AreBorn w (makes_epoch w n i m j c)
unfolding makes_epoch
makes_born w n i m j c =
    let e = min ((standing_of w n i).made + 1) (2 ^ 64 - 1) in
    let v = has_made w n i e in
    let u = has_made v m j e in
    born_on w v _ (standing_born w n i (record (standing_of w n i) { made = e }))
    (born_on v u _ (standing_born v m j (record (standing_of v m j) { made = e })) (answer_born u n c e))

pub enters_born : (w : World) (n i e : ℕ) → AreBorn w (enters_epoch w n i e)
unfolding enters_epoch
enters_born w n i e = standing_born w n i (record (standing_of w n i) { epoch = e; lost = None })

-- ---- a birth

module _ (n s b : ℕ) where
  module _ (w : World) (node : Node) (was : at w.nodes n ≡ Some node) where
    abbrev pub put_in : World
    put_in = with_node w n (record node { births = put node.births s b })

    pub own_birth : birth_of put_in n s ≡ b
    unfolding birth_of
    own_birth =
        ap (λ o. birth_in o s) (at_new w.nodes n (record node { births = put node.births s b }))
        ∙ ap (λ o. unwrap_or o 0) (at_new node.births s b)

    pub other_birth : (q r : ℕ) → ((q ≡ n) × (r ≡ s) → ⊥) → birth_of put_in q r ≡ birth_of w q r
    unfolding birth_of
    other_birth q r apart = ⊎_elim
        (λ (e : q ≡ n).
        ap (λ y. birth_in (at put_in.nodes y) r) e
        ∙ (ap (λ o. birth_in o r) (at_new w.nodes n (record node { births = put node.births s b }))
        ∙ (ap (λ o. unwrap_or o 0) (at_other node.births s b r (λ z. apart (e, z)))
        ∙ sym (ap (λ y. birth_in (at w.nodes y) r) e ∙ ap (λ o. birth_in o r) was))))
        (λ (o : q ≡ n → ⊥). ap (λ p. birth_in p r) (at_other w.nodes n (record node { births = put node.births s b }) q o))
        (same_or_not q n)

    put_there : (q : ℕ) → is_some (at put_in.nodes q) ≡ is_some (at w.nodes q)
    put_there q = by_node w n node (record node { births = put node.births s b }) was (λ o. is_some o) refl q

  pub either : (q r : ℕ) → ((q ≡ n) × (r ≡ s)) ⊎ ((q ≡ n) × (r ≡ s) → ⊥)
  either q r = ⊎_elim
      (λ (e : q ≡ n). ⊎_elim (λ (f : r ≡ s). inl (e, f)) (λ o. inr (λ (p : (q ≡ n) × (r ≡ s)). o p.1)) (same_or_not r s))
      (λ o. inr (λ (p : (q ≡ n) × (r ≡ s)). o p.0))
      (same_or_not q n)

  birth_put : (v u : World) → AreBorn v u → AreBorn (with_birth v n s b) (with_birth u n s b)
  unfolding with_birth
  birth_put v u g = by (at v.nodes n) (at u.nodes n) refl refl
    where
      by : (o p : Option Node) → at v.nodes n ≡ o → at u.nodes n ≡ p → AreBorn (with_birth_at v n s b o) (with_birth_at u n s b p)
      by None None x y = g
      by None (Some c) x y = let no : true ≡ false = sym (ap is_some y) ∙ (g.there n ∙ ap is_some x) in absurd cc
      by (Some a) None x y = let no : false ≡ true = sym (ap is_some y) ∙ (g.there n ∙ ap is_some x) in absurd cc
      by (Some a) (Some c) x y = record {
        born = g.born;
        births = λ q r. ⊎_elim
            (λ (p : (q ≡ n) × (r ≡ s)).
            ap₂ (λ i j. birth_of (put_in u c y) i j) p.0 p.1
            ∙ (own_birth u c y ∙ (sym (own_birth v a x) ∙ ap₂ (λ i j. birth_of (put_in v a x) i j) (sym p.0) (sym p.1))))
            (λ o. other_birth u c y q r o ∙ (g.births q r ∙ sym (other_birth v a x q r o)))
            (either q r);
        there = λ q. put_there u c y q ∙ (g.there q ∙ sym (put_there v a x q));
      }

counted : (w : World) (b : ℕ) (v : World) (c : ℕ) → AreBorn w v → b ≡ c → AreBorn (record w { born = b }) (record v { born = c })
unfolding birth_of
counted w b v c g same = record { born = sym same; births = g.births; there = g.there }

pub moved_born : (n : ℕ) (m : Move) (v u : World) → AreBorn v u → AreBorn (moved n v m) (moved n u m)
unfolding moved is_born
moved_born n (move.Added m) v u g =
    let b = min (v.born + 1) (2 ^ 64 - 1) in
    let same : min (u.born + 1) (2 ^ 64 - 1) ≡ b = ap (λ k. min (k + 1) (2 ^ 64 - 1)) g.born in
    subst (λ c. AreBorn (with_birth (record v { born = b }) n m.session b) (with_birth (record u { born = c }) n m.session c)) (sym same)
    (birth_put n m.session b (record v { born = b }) (record u { born = b }) (counted v b u b g refl))
moved_born n (move.Replied m) v u g =
    let b = birth_of v (node_of m.peer) m.remote in
    subst (λ c. AreBorn (with_birth v n m.session b) (with_birth u n m.session c)) (sym (g.births (node_of m.peer) m.remote))
    (birth_put n m.session b v u g)
moved_born n (move.Froze m) v u g =
    born_on _ v _ (born_back v _ (makes_born v n m.tunnel (node_of m.peer) m.remote m.answer))
    (born_on v u _ g (makes_born u n m.tunnel (node_of m.peer) m.remote m.answer))
moved_born n (move.ResetAttempting m) v u g =
    born_on _ v _ (born_back v _ (enters_born v n m.tunnel (answer_in (at v.nodes (node_of m.peer)) m.answer)))
    (born_on v u _ g (enters_born u n m.tunnel (answer_in (at u.nodes (node_of m.peer)) m.answer)))
moved_born n (move.ResetAnswering m) v u g =
    born_on _ v _ (born_back v _ (enters_born v n m.tunnel (answer_in (at v.nodes n) m.answer)))
    (born_on v u _ g (enters_born u n m.tunnel (answer_in (at u.nodes n) m.answer)))
moved_born n m v u g = g

-- ---- outputs

pub nodes_born : (w v : World) → v.nodes ≡ w.nodes → v.born ≡ w.born → AreBorn w v
unfolding birth_of
nodes_born w v nodes born = record {
  born = born;
  births = λ q s. ap (λ l. birth_in (at l q) s) nodes;
  there = λ q. ap (λ l. is_some (at l q)) nodes;
}

pub shown_born : (n : ℕ) (os : List Out) (w v : World) → AreBorn w v → AreBorn w (shown_all n os v)
unfolding shown_all shown sent
shown_born n [] w v g = g
shown_born n (Send peer bytes origin ∷ os) w v g =
    shown_born n os w (sent v n (node_of peer) bytes origin) (born_on w v _ g (nodes_born v (sent v n
    (node_of peer) bytes origin) refl refl))
shown_born n (Up session side frame ∷ os) w v g = shown_born n os w v g
shown_born n (Gone session ∷ os) w v g = shown_born n os w v g
shown_born n (Drop x ∷ os) w v g = shown_born n os w v g
shown_born n (Cause x ∷ os) w v g = shown_born n os w v g
