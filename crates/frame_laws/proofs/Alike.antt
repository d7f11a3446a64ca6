-- What a move changes of the standings of tunnels, and of answers, leaves ends, births and checkpoints as they are.
use Rattle.std.proofs.Common.{◌≡◌, ℕ, ◌+◌, ⊎_elim, refl, sym, ap, ◌∙◌, subst, Option, Some, None}
use Rattle.std.specs.Prelude.{min, ◌^◌, ◌-◌}
use Rattle.id_table.specs.Ids.{at, put}
use Rattle.id_table.specs.Order.{at_new, at_other, same_or_not}
use Rattle.end_names.specs.declared.role.Role.{Role}
use Rattle.end_names.specs.declared.role.Role.TheVariants.{Lac}
use Rattle.end_model.specs.End.{End}
use Rattle.world_model.specs.declared.standing.Standing.{Standing}
use Rattle.world_model.specs.World.{World, Node, with_node, standing_of, with_standing_at, with_standing, with_answer_at, has_made, makes_epoch, enters_epoch}
use Rattle.frame_laws.proofs.Facts.{Born, birth_in_node, Plays, role_in_node, Grows}
use Rattle.frame_laws.proofs.Births.{Counted}

-- the same end, the same births and the same checkpoint
abbrev pub AreLike : Option Node → Option Node → Type 0
AreLike None None = Unit {0}
AreLike None (Some b) = ⊥
AreLike (Some a) None = ⊥
AreLike (Some a) (Some b) = (b.end ≡ a.end) × (b.births ≡ a.births) × (b.checkpoint ≡ a.checkpoint)

pub like_self : (o : Option Node) → AreLike o o
like_self None = tt
like_self (Some a) = (refl, refl, refl)

pub like_then : (o p q : Option Node) → AreLike o p → AreLike p q → AreLike o q
like_then None None None h k = tt
like_then None None (Some c) h k = k
like_then None (Some b) q h k = absurd h
like_then (Some a) None q h k = absurd h
like_then (Some a) (Some b) None h k = k
like_then (Some a) (Some b) (Some c) h k = (k.0 ∙ h.0, k.1 ∙ h.1, k.2 ∙ h.2)

birth_like : (o p : Option Node) → AreLike o p → (s : ℕ) → birth_in_node p s ≡ birth_in_node o s
birth_like None None h s = refl
birth_like None (Some b) h s = absurd h
birth_like (Some a) None h s = absurd h
birth_like (Some a) (Some b) h s = ap (λ bs. at bs s) h.1

role_like : (o p : Option Node) → AreLike o p → role_in_node p ≡ role_in_node o
role_like None None h = refl
role_like None (Some b) h = absurd h
role_like (Some a) None h = absurd h
role_like (Some a) (Some b) h = ap (λ (e : End). Some e.role) h.0

-- two worlds whose nodes are alike
pub record AreAlike (v w : World) : Type 0 where
  pub nodes : (m : ℕ) → AreLike (at v.nodes m) (at w.nodes m)
  pub packets : w.packets ≡ v.packets
  pub born : w.born ≡ v.born

pub alike_self : (v : World) → AreAlike v v
alike_self v = record { nodes = λ m. like_self (at v.nodes m); packets = refl; born = refl }

alike_then : (v u w : World) → AreAlike v u → AreAlike u w → AreAlike v w
alike_then v u w h k = record {
  nodes = λ m. like_then (at v.nodes m) (at u.nodes m) (at w.nodes m) (h.nodes m) (k.nodes m);
  packets = k.packets ∙ h.packets;
  born = k.born ∙ h.born;
}

put_alike : (v : World) (n : ℕ) (node more : Node) → at v.nodes n ≡ Some node → more.end ≡ node.end → more.births ≡ node.births
    → more.checkpoint ≡ node.checkpoint → AreAlike v (with_node v n more)
put_alike v n node more is end births checkpoint = record {
  nodes = λ m. ⊎_elim
      (λ (e : m ≡ n). rw (e, is, at_new v.nodes n more) (end, births, checkpoint))
      (λ o. rw (at_other v.nodes n more m o) (like_self (at v.nodes m)))
      (same_or_not m n);
  packets = refl;
  born = refl;
}

standing_alike : (w : World) (n i : ℕ) (s : Standing) → AreAlike w (with_standing w n i s)
unfolding with_standing
standing_alike w n i s = by (at w.nodes n) refl
  where
    by : (o : Option Node) → at w.nodes n ≡ o → AreAlike w (with_standing_at w n i s o)
    by None is = alike_self w
    by (Some node) is = put_alike w n node (record node { standings = put node.standings i s }) is refl refl refl

answer_alike : (w : World) (n answer epoch : ℕ) → AreAlike w (with_answer_at w n answer epoch (at w.nodes n))
answer_alike w n answer epoch = by (at w.nodes n) refl
  where
    by : (o : Option Node) → at w.nodes n ≡ o → AreAlike w (with_answer_at w n answer epoch o)
    by None is = alike_self w
    by (Some node) is = put_alike w n node (record node { answers = put node.answers answer epoch }) is refl refl refl

-- an answer makes an epoch
pub made_alike : (w : World) (n i m j answer : ℕ) → AreAlike w (makes_epoch w n i m j answer)
unfolding makes_epoch
made_alike w n i m j answer =
    let epoch = min ((standing_of w n i).made + 1) (2 ^ 64 - 1) in
    let u = has_made w n i epoch in
    let v = has_made u m j epoch in
    alike_then w v (with_answer_at v n answer epoch (at v.nodes n))
    (alike_then w u v (standing_alike w n i (record (standing_of w n i) { made = epoch }))
    (standing_alike u m j (record (standing_of u m j) { made = epoch })))
    (answer_alike v n answer epoch)

-- a tunnel enters one
pub entered_alike : (w : World) (n i epoch : ℕ) → AreAlike w (enters_epoch w n i epoch)
unfolding enters_epoch
entered_alike w n i epoch = standing_alike w n i (record (standing_of w n i) { epoch = epoch; lost = None })

-- ---- births and roles are the same

module _ (v w : World) (alike : AreAlike v w) where
  pub born_before : (m s b : ℕ) → Born w.nodes m s b → Born v.nodes m s b
  born_before m s b h = sym (birth_like (at v.nodes m) (at w.nodes m) (alike.nodes m) s) ∙ h

  pub plays_before : (m : ℕ) (r : Role) → Plays w.nodes m r → Plays v.nodes m r
  plays_before m r h = sym (role_like (at v.nodes m) (at w.nodes m) (alike.nodes m)) ∙ h

  pub alike_grows : Grows v.nodes w.nodes
  alike_grows = record {
    births = λ m s b h. birth_like (at v.nodes m) (at w.nodes m) (alike.nodes m) s ∙ h;
    roles = λ m r h. role_like (at v.nodes m) (at w.nodes m) (alike.nodes m) ∙ h;
  }

  pub alike_counted : Counted v.nodes v.born → Counted w.nodes w.born
  alike_counted had = record {
    most = λ m s b h. rw alike.born (had.most m s b (born_before m s b h));
    apart = λ i s m q b h k one two.
        had.apart i s m q b (born_before i s b h) (born_before m q b k) (plays_before i Lac one) (plays_before m Lac two);
  }

  -- the node that is there
  pub record LikeNode (m : ℕ) (node : Node) : Type 0 where
    pub more : Node
    pub there : at w.nodes m ≡ Some more
    pub end : more.end ≡ node.end
    pub births : more.births ≡ node.births
    pub checkpoint : more.checkpoint ≡ node.checkpoint

  pub node_like : (m : ℕ) (node : Node) → at v.nodes m ≡ Some node → LikeNode m node
  node_like m node is = by (at w.nodes m) refl (subst (λ q. AreLike q (at w.nodes m)) is (alike.nodes m))
    where
      by : (o : Option Node) → at w.nodes m ≡ o → AreLike (Some node) (at w.nodes m) → LikeNode m node
      by None there like = absurd (subst (λ q. AreLike (Some node) q) there like)
      by (Some more) there like =
          let h = subst (λ q. AreLike (Some node) q) there like in
          record { more = more; there = there; end = h.0; births = h.1; checkpoint = h.2 }
