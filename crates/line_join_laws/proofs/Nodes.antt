-- The nodes of the world to which a move of a step leads.
use Rattle.std.proofs.Common.{◌≡◌, ℕ, Bool, true, false, sym, ap, ◌∙◌, subst, Some}
use Rattle.std.proofs.lemmas.Option.{same_Some}
use Rattle.id_table.specs.Ids.{at}
use Rattle.id_table.specs.Order.{at_new, at_other}
use Rattle.end_model.specs.declared.moves.Move.{Move}
use Rattle.end_model.specs.End.{End}
use Rattle.end_model.specs.Starting.{bare_end}
use Rattle.world_model.specs.World.{World, Node, Checkpoint, moved}
use Rattle.step_laws.specs.Looks.{LooksAreTrue}
use Rattle.step_laws.specs.Steps.{AreKept}
use Rattle.book_laws.specs.Books.{Fits, IsBook, SuitsRole}
use Rattle.node_laws.specs.Nodes.{IsSoundBook, HoldsNode}
use Rattle.channel_laws.specs.Steps.{with_end, moves_on}
use Rattle.channel_laws.specs.Whole.{SameLook}
use Rattle.channel_laws.proofs.Looks.{moved_look, looks_so}
use Rattle.recovery_laws.proofs.Alike.{IsLike, WasLike, AreLike, all_like, moved_like}

-- a node that is like another one is as that one was
module _ (a b : Node) (like : IsLike a b) where
  by_parts : (P : End → Bool → Checkpoint → Type 0) → P a.end a.up a.checkpoint → P b.end b.up b.checkpoint
  by_parts P p =
      subst (λ c. P b.end b.up c) (sym like.checkpoint)
      (subst (λ u. P b.end u a.checkpoint) (sym like.up) (subst (λ e. P e a.up a.checkpoint) (sym like.end) p))

  abbrev UpOf : End → Bool → Checkpoint → Type 0
  UpOf e u c = u ≡ true → AreKept e × LooksAreTrue e × Fits e × IsBook e c.book

  pub like_holds : HoldsNode a → HoldsNode b
  like_holds h = record {
    sound = subst (λ (c : Checkpoint). IsSoundBook c.book) (sym like.checkpoint) h.sound;
    suits = by_parts (λ e u c. SuitsRole e.role c.book) h.suits;
    up = λ is.
        (let q = by_parts UpOf (λ on. (let k = h.up on in (k.kept, k.looks, k.fit, k.book))) is in
        record { kept = q.0; looks = q.1; fit = q.2; book = q.3 });
    down = by_parts (λ e u c. u ≡ false → e ≡ bare_end e.role e.config c.book) h.down;
  }

-- ---- a move of a node

-- a node of a world with this end, up or down, with this checkpoint
pub record IsThere (w : World) (n : ℕ) (x : End) (on : Bool) (c : Checkpoint) : Type 0 where
  pub node : Node
  pub there : at w.nodes n ≡ Some node
  pub end : node.end ≡ x
  pub up : node.up ≡ on
  pub checkpoint : node.checkpoint ≡ c

module _ (w : World) (n : ℕ) (old : Node) (was : at w.nodes n ≡ Some old) (m : Move) (x : End) where
  abbrev base : World
  base = with_end w n old x

  abbrev new : Node
  new = record old { end = x }

  base_here : at base.nodes n ≡ Some new
  base_here = at_new w.nodes n new

  like : AreLike base (moved n base m)
  like = moved_like base n m base (all_like base)

  pub left_there : IsThere (moves_on w n old m x) n x old.up old.checkpoint
  left_there =
      let own = looks_so new (at (moved n base m).nodes n)
      (subst (λ o. SameLook o (at (moved n base m).nodes n)) base_here (moved_look n m base n)) in
      let q = like n own.0 own.1 in
      let same : new ≡ q.old = same_Some new q.old (sym base_here ∙ q.was) in
      record {
        node = own.0;
        there = own.1;
        end = own.2;
        up = q.like.up ∙ ap (λ (y : Node). y.up) (sym same);
        checkpoint = own.3;
      }

  -- each other node is like it was
  pub left_others : (q : ℕ) (other : Node) → (q ≡ n → ⊥) → at (moves_on w n old m x).nodes q ≡ Some other → WasLike w q other
  left_others q other o there =
      let k = like q other there in
      record { old = k.old; was = sym (at_other w.nodes n new q o) ∙ k.was; like = k.like }
