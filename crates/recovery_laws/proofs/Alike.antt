-- What the moves and the outputs of a step leave of each node: its end, its checkpoint, and whether it is up.
use Rattle.std.proofs.Common.{◌≡◌, ⊎_elim, ℕ, ◌+◌, ◌-◌, ◌^◌, List, [], ◌∷◌, refl, sym, ◌∙◌, subst, Option, Some, None}
use Rattle.std.specs.Prelude.{min}
use Rattle.id_table.specs.Ids.{at, put}
use Rattle.id_table.specs.Order.{at_new, at_other, same_or_not}
use Rattle.end_names.specs.Names.{node_of}
use Rattle.end_model.specs.declared.moves.Move.{Move}
use Rattle.end_model.specs.declared.moves.Move.TheVariants as move
use Rattle.end_model.specs.declared.out.Out.{Out}
use Rattle.end_model.specs.declared.out.Out.TheVariants.{Send, Up, Gone, Drop, Cause}
use Rattle.end_model.specs.End.{Stepped}
use Rattle.world_model.specs.declared.standing.Standing.{Standing}
use Rattle.world_model.specs.World.{World, Node, Sender, with_node, with_birth_at, with_birth, birth_of, standing_of, with_standing_at, with_standing, with_answer_at, answer_in, has_made, makes_epoch, enters_epoch, is_born, moved, moved_all, sent, shown, shown_all, given, after_step}

-- the same end, up or down, with the same checkpoint
pub record IsLike (a b : Node) : Type 0 where
  pub end : b.end ≡ a.end
  pub up : b.up ≡ a.up
  pub checkpoint : b.checkpoint ≡ a.checkpoint

abbrev like_itself : (a : Node) → IsLike a a
like_itself a = record { end = refl; up = refl; checkpoint = refl }

like_on : (a b c : Node) → IsLike a b → IsLike b c → IsLike a c
like_on a b c x y = record { end = y.end ∙ x.end; up = y.up ∙ x.up; checkpoint = y.checkpoint ∙ x.checkpoint }

-- each node of the later world was one of the earlier
pub record WasLike (w : World) (n : ℕ) (new : Node) : Type 0 where
  pub old : Node
  pub was : at w.nodes n ≡ Some old
  pub like : IsLike old new

abbrev pub AreLike : World → World → Type 0
AreLike w v = (n : ℕ) (new : Node) → at v.nodes n ≡ Some new → WasLike w n new

pub all_like : (w : World) → AreLike w w
all_like w n new is = record { old = new; was = is; like = like_itself new }

on_like : (u v w : World) → AreLike u v → AreLike v w → AreLike u w
on_like u v w x y n new is =
    let k = y n new is in
    let l = x n k.old k.was in
    record { old = l.old; was = l.was; like = like_on l.old k.old new l.like k.like }

-- one node is put in the place of one that is like it
put_like : (u w : World) (n : ℕ) (node more : Node) → at w.nodes n ≡ Some node → IsLike node more → AreLike u w → AreLike u (with_node w n more)
put_like u w n node more is like rest m new there = ⊎_elim
    (λ (e : m ≡ n).
    let here : at (put w.nodes n more) n ≡ Some new = subst (λ q. at (put w.nodes n more) q ≡ Some new) e there in
    let same : Some more ≡ Some new = sym (at_new w.nodes n more) ∙ here in
    let one : more ≡ new = cc in
    let k = rest n node is in
    subst (λ q. WasLike u q new) (sym e) (record { old = k.old; was = k.was; like = subst (IsLike k.old) one (like_on k.old node more k.like like) }))
    (λ o. rest m new (sym (at_other w.nodes n more m o) ∙ there))
    (same_or_not m n)

module _ (u : World) where
  birth_like : (w : World) (n session birth : ℕ) → AreLike u w → AreLike u (with_birth w n session birth)
  unfolding with_birth
  birth_like w n session birth like = by (at w.nodes n) refl
    where
      by : (o : Option Node) → at w.nodes n ≡ o → AreLike u (with_birth_at w n session birth o)
      by None is = like
      by (Some node) is = put_like u w n node (record node { births = put node.births session birth }) is (record { end = refl; up = refl; checkpoint = refl }) like

  standing_like : (w : World) (n i : ℕ) (s : Standing) → AreLike u w → AreLike u (with_standing w n i s)
  unfolding with_standing
  standing_like w n i s like = by (at w.nodes n) refl
    where
      by : (o : Option Node) → at w.nodes n ≡ o → AreLike u (with_standing_at w n i s o)
      by None is = like
      by (Some node) is = put_like u w n node (record node { standings = put node.standings i s }) is (record { end = refl; up = refl; checkpoint = refl }) like

  answer_like : (w : World) (n answer epoch : ℕ) → AreLike u w → AreLike u (with_answer_at w n answer epoch (at w.nodes n))
  answer_like w n answer epoch like = by (at w.nodes n) refl
    where
      by : (o : Option Node) → at w.nodes n ≡ o → AreLike u (with_answer_at w n answer epoch o)
      by None is = like
      by (Some node) is = put_like u w n node (record node { answers = put node.answers answer epoch }) is (record { end = refl; up = refl; checkpoint = refl }) like

  made_like : (w : World) (n i epoch : ℕ) → AreLike u w → AreLike u (has_made w n i epoch)
  made_like w n i epoch like = standing_like w n i (record (standing_of w n i) { made = epoch }) like

  epoch_like : (w : World) (n i m j answer : ℕ) → AreLike u w → AreLike u (makes_epoch w n i m j answer)
  unfolding makes_epoch
  epoch_like w n i m j answer like =
      let epoch = min ((standing_of w n i).made + 1) (2 ^ 64 - 1) in
      answer_like (has_made (has_made w n i epoch) m j epoch) n answer epoch
      (made_like (has_made w n i epoch) m j epoch (made_like w n i epoch like))

  enters_like : (w : World) (n i epoch : ℕ) → AreLike u w → AreLike u (enters_epoch w n i epoch)
  unfolding enters_epoch
  enters_like w n i epoch like = standing_like w n i (record (standing_of w n i) { epoch = epoch; lost = None }) like

  pub moved_like : (n : ℕ) (m : Move) (w : World) → AreLike u w → AreLike u (moved n w m)
  unfolding moved is_born
  moved_like n (move.Added m) w like =
      birth_like (record w { born = min (w.born + 1) (2 ^ 64 - 1) }) n m.session (min (w.born + 1) (2 ^ 64 - 1)) like
  moved_like n (move.Replied m) w like = birth_like w n m.session (birth_of w (node_of m.peer) m.remote) like
  moved_like n (move.Froze m) w like = epoch_like w n m.tunnel (node_of m.peer) m.remote m.answer like
  moved_like n (move.ResetAttempting m) w like = enters_like w n m.tunnel (answer_in (at w.nodes (node_of m.peer)) m.answer) like
  moved_like n (move.ResetAnswering m) w like = enters_like w n m.tunnel (answer_in (at w.nodes n) m.answer) like
  moved_like n (move.Opened m) w like = like
  moved_like n (move.Accepted m) w like = like
  moved_like n (move.Connected m) w like = like
  moved_like n (move.Confirmed m) w like = like
  moved_like n (move.Requested m) w like = like
  moved_like n (move.FirstUp m) w like = like
  moved_like n (move.SecondUp m) w like = like
  moved_like n (move.Refused m) w like = like
  moved_like n (move.EndTold m) w like = like
  moved_like n (move.EndHeard m) w like = like
  moved_like n (move.EndSilent m) w like = like
  moved_like n (move.Declined m) w like = like
  moved_like n (move.Closed m) w like = like
  moved_like n (move.Rejected m) w like = like
  moved_like n (move.ClosedBy m) w like = like
  moved_like n (move.Greeted m) w like = like
  moved_like n (move.TookPlain m) w like = like
  moved_like n (move.NrRead m) w like = like
  moved_like n (move.LetGo m) w like = like
  moved_like n (move.Repeated m) w like = like
  moved_like n (move.Negotiated m) w like = like
  moved_like n (move.Counted m) w like = like
  moved_like n (move.FrameSent m) w like = like
  moved_like n (move.FrameUp m) w like = like
  moved_like n (move.Cleared i booked) w like = like
  moved_like n (move.Quiet i) w like = like
  moved_like n (move.Restored m) w like = like
  moved_like n (move.Forgot m) w like = like
  moved_like n (move.Queried m) w like = like
  moved_like n (move.AnsweredQuery m) w like = like
  moved_like n (move.TookAnswer m) w like = like
  moved_like n (move.RecoveryWentOn i) w like = like
  moved_like n (move.RecoveryEnded i) w like = like
  moved_like n (move.Ignored i) w like = like

  all_moved_like : (n : ℕ) (ms : List Move) (w : World) → AreLike u w → AreLike u (moved_all n ms w)
  unfolding moved_all
  all_moved_like n [] w like = like
  all_moved_like n (m ∷ ms) w like = all_moved_like n ms (moved n w m) (moved_like n m w like)

  all_shown_like : (n : ℕ) (os : List Out) (w : World) → AreLike u w → AreLike u (shown_all n os w)
  unfolding shown_all shown sent
  all_shown_like n [] w like = like
  all_shown_like n (Send peer bytes origin ∷ os) w like = all_shown_like n os (sent w n (node_of peer) bytes origin) like
  all_shown_like n (Up session side frame ∷ os) w like = all_shown_like n os w like
  all_shown_like n (Gone session ∷ os) w like = all_shown_like n os w like
  all_shown_like n (Drop x ∷ os) w like = all_shown_like n os w like
  all_shown_like n (Cause x ∷ os) w like = all_shown_like n os w like

-- what a step leaves of the nodes is its own node with the end that it leads to
pub stepped_like : (w : World) (number n : ℕ) (node : Node) (sender : Option Sender) (s : Stepped)
    → AreLike (with_node w n (record node { end = s.end })) (after_step w number n node sender s).world
unfolding after_step given
stepped_like w number n node sender s =
    let v = with_node w n (record node { end = s.end }) in
    all_shown_like v n s.outputs (moved_all n s.moves v) (all_moved_like v n s.moves v (all_like v))
