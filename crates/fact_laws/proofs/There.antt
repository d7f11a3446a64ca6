-- A node that was declared is there for ever: no line takes one out of the world. And what a whole step leaves of its node.
use Rattle.std.proofs.Common.{◌≡◌, ⊎_elim, ℕ, true, sym, ap, ◌∙◌, subst, Option, Some, None}
use Rattle.id_table.specs.Ids.{at, put}
use Rattle.id_table.specs.Order.{at_new, at_other, same_or_not}
use Rattle.end_model.specs.End.{Stepped, step}
use Rattle.end_model.specs.Starting.{starts}
use Rattle.world_model.specs.World.{World, Node, Sender, Lined, with_node, moved_all, given, after_step, block_of, cut_line, fallen, opened}
use Rattle.frame_laws.proofs.Worlds.{shown_nodes}
use Rattle.channel_laws.specs.Lines.{AreSame, WholeStep, CutStep, WholeStart, LineDoes, Nothing, ANode, Arms, Falls, Steps, Cuts, Starts}
use Rattle.channel_laws.specs.Whole.{SameLook}
use Rattle.channel_laws.proofs.Looks.{all_look, looks_so}
use Rattle.recovery_laws.proofs.Alike.{stepped_like}

module _ (w : World) (number : ℕ) (x : Lined) where
  module _ (n : ℕ) (old : Node) (was : at w.nodes n ≡ Some old) where
    abbrev There : World → Type 0
    There v = (new : Node) × (at v.nodes n ≡ Some new)

    put_there : (base : World) (m : ℕ) (node : Node) → There base → There (with_node base m node)
    put_there base m node h = ⊎_elim
        (λ (same : n ≡ m). (node, subst (λ q. at (put base.nodes m node) q ≡ Some node) (sym same) (at_new base.nodes m node)))
        (λ (o : n ≡ m → ⊥). (h.0, at_other base.nodes m node n o ∙ h.1))
        (same_or_not n m)

    in_same : (v : World) → AreSame w v → There v
    in_same v same = (old, ap (λ ns. at ns n) same.nodes ∙ was)

    after_there : (base : World) (m : ℕ) (node : Node) (sender : Option Sender) (s : Stepped) → There base
        → There (after_step base number m node sender s).world
    unfolding after_step given
    after_there base m node sender s h =
        let v = with_node base m (record node { end = s.end }) in
        let u = moved_all m s.moves v in
        let was_there = put_there base m (record node { end = s.end }) h in
        let look = subst (λ o. SameLook o (at u.nodes n)) was_there.1 (all_look m s.moves v n) in
        let own = looks_so was_there.0 (at u.nodes n) look in
        (own.0, ap (λ ns. at ns n) (shown_nodes m s.outputs u) ∙ own.1)

    cut_there : (k : CutStep w number x) → There x.world
    unfolding cut_line
    cut_there k =
        subst There (sym k.world)
        (put_there k.base k.node (fallen (block_of k.node number) k.found.end k.found k.checkpoint) (in_same k.base k.same))

    pub still_there : LineDoes w number x → There x.world
    still_there (Nothing same hands none) = in_same x.world same
    still_there (ANode m role lns secret hide lt to fresh world done none) = subst There (sym world) (put_there w m _ (old, was))
    still_there (Arms k stop world done none) = subst There (sym world) (put_there w k.node _ (old, was))
    still_there (Falls k world done none) = subst There (sym world) (put_there w k.node _ (old, was))
    still_there (Steps k) = subst There (sym k.world) (after_there k.base k.node _ k.sender _ (in_same k.base k.same))
    still_there (Cuts k) = cut_there k
    still_there (Starts k) = subst (λ (l : Lined). There l.world) (sym k.is) (after_there w k.node _ None _ (old, was))

  -- the node of a whole step has the end that the step leaves
  module _ (k : WholeStep w number x) where
    abbrev stepped : Stepped
    stepped = step k.found.end k.found.clock (block_of k.node number) k.event

    pub stepped_node : (new : Node) → at x.world.nodes k.node ≡ Some new → (new.end ≡ stepped.end) × (new.up ≡ true)
    stepped_node new there =
        let node = record k.found { checkpoint = k.checkpoint } in
        let l = stepped_like k.base number k.node node k.sender stepped k.node new
        (ap (λ (v : World). at v.nodes k.node) (sym k.world) ∙ there) in
        let put_one = record node { end = stepped.end } in
        let both : Some put_one ≡ Some l.old = sym (at_new k.base.nodes k.node put_one) ∙ l.was in
        let same : put_one ≡ l.old = cc in
        (l.like.end ∙ sym (ap (λ (q : Node). q.end) same), l.like.up ∙ (sym (ap (λ (q : Node). q.up) same) ∙ k.still))

  -- and that of a whole start has the end that the start leaves
  module _ (k : WholeStart w number x) where
    abbrev started : Stepped
    started = starts k.old.end.role k.old.end.config k.old.checkpoint.book k.old.clock (block_of k.node number)

    pub started_node : (new : Node) → at x.world.nodes k.node ≡ Some new → new.end ≡ started.end
    started_node new there =
        let node = record (opened (block_of k.node number) k.old) { checkpoint = k.checkpoint } in
        let l = stepped_like w number k.node node None started k.node new
        (ap (λ (y : Lined). at y.world.nodes k.node) (sym k.is) ∙ there) in
        let put_one = record node { end = started.end } in
        let both : Some put_one ≡ Some l.old = sym (at_new w.nodes k.node put_one) ∙ l.was in
        let same : put_one ≡ l.old = cc in
        l.like.end ∙ sym (ap (λ (q : Node). q.end) same)
