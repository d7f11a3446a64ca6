-- What a step of one node does to the nodes.
use Rattle.std.proofs.Common.{◌≡◌, ℕ, ◌+◌, ◌-◌, ◌^◌, List, [], ◌∷◌, refl, ◌∙◌, Option, Some}
use Rattle.std.specs.Prelude.{min}
use Rattle.std.specs.List.{AllByRecursion}
use Rattle.id_table.specs.Ids.{at, put}
use Rattle.id_table.specs.Order.{at_new, at_other}
use Rattle.end_model.specs.declared.moves.Move.{Move}
use Rattle.end_model.specs.declared.moves.Move.TheVariants as move
use Rattle.end_model.specs.declared.out.Out.{Out}
use Rattle.end_model.specs.declared.out.Out.TheVariants.{Send, Up, Gone, Drop, Cause}
use Rattle.end_names.specs.Names.{node_of}
use Rattle.end_model.specs.End.{End, Stepped}
use Rattle.world_model.specs.World.{World, Node, Sender, with_node, is_born, with_birth, birth_of, moved, moved_all, sent, shown, shown_all, given, after_step}
use Rattle.frame_laws.specs.Unrecovered.{IsMain}
use Rattle.request_laws.proofs.Deeds.{deeds}

-- ---- births

-- a node with one more birth
abbrev pub with_one : Node → ℕ → ℕ → Node
with_one node s b = record node { births = put node.births s b }

abbrev pub next_birth : World → ℕ
next_birth w = min (w.born + 1) (2 ^ 64 - 1)

pub born_nodes : (w : World) (n s : ℕ) (node : Node) → at w.nodes n ≡ Some node → (is_born w n s).nodes ≡ put w.nodes n (with_one node s (next_birth w))
unfolding is_born with_birth
born_nodes w n s node is = rw is refl

pub made_nodes : (w : World) (n s b : ℕ) (node : Node) → at w.nodes n ≡ Some node → (with_birth w n s b).nodes ≡ put w.nodes n (with_one node s b)
unfolding with_birth
made_nodes w n s b node is = rw is refl

-- ---- nodes

-- the node keeps its end, and the other nodes stay
pub record Follows (n : ℕ) (v w : World) (e : End) : Type 0 where
  pub node : Node
  pub is : at w.nodes n ≡ Some node
  pub end_is : node.end ≡ e
  pub others : (q : ℕ) → (q ≡ n → ⊥) → at w.nodes q ≡ at v.nodes q

pub put_follows : (n : ℕ) (v w : World) (node : Node) → w.nodes ≡ put v.nodes n node → Follows n v w node.end
put_follows n v w node are = record {
  node = node;
  is = rw are (at_new v.nodes n node);
  end_is = refl;
  others = λ q o. rw are (at_other v.nodes n node q o);
}

same_follows : (n : ℕ) (v : World) (node : Node) → at v.nodes n ≡ Some node → Follows n v v node.end
same_follows n v node is = record { node = node; is = is; end_is = refl; others = λ q o. refl }

follows_on : (n : ℕ) (u v w : World) (d e : End) → Follows n u v d → Follows n v w e → e ≡ d → Follows n u w d
follows_on n u v w d e g h same = record { node = h.node; is = h.is; end_is = h.end_is ∙ same; others = λ q o. h.others q o ∙ g.others q o }

moved_follows : (n : ℕ) (v : World) (node : Node) → at v.nodes n ≡ Some node → (m : Move) → IsMain m → Follows n v (moved n v m) node.end
unfolding moved
moved_follows n v node is (move.Opened m) main = same_follows n v node is
moved_follows n v node is (move.Accepted m) main = same_follows n v node is
moved_follows n v node is (move.Connected m) main = same_follows n v node is
moved_follows n v node is (move.Confirmed m) main = same_follows n v node is
moved_follows n v node is (move.Added m) main = put_follows n v _ (with_one node m.session (next_birth v)) (born_nodes v n m.session node is)
moved_follows n v node is (move.Requested m) main = same_follows n v node is
moved_follows n v node is (move.Replied m) main =
    let b = birth_of v (node_of m.peer) m.remote in put_follows n v _ (with_one node m.session b) (made_nodes v n m.session b node is)
moved_follows n v node is (move.FirstUp m) main = same_follows n v node is
moved_follows n v node is (move.SecondUp m) main = same_follows n v node is
moved_follows n v node is (move.Refused m) main = same_follows n v node is
moved_follows n v node is (move.EndTold m) main = same_follows n v node is
moved_follows n v node is (move.EndHeard m) main = same_follows n v node is
moved_follows n v node is (move.EndSilent m) main = same_follows n v node is
moved_follows n v node is (move.Declined m) main = same_follows n v node is
moved_follows n v node is (move.Closed m) main = same_follows n v node is
moved_follows n v node is (move.Rejected m) main = same_follows n v node is
moved_follows n v node is (move.ClosedBy m) main = same_follows n v node is
moved_follows n v node is (move.Cleared i booked) main = same_follows n v node is
moved_follows n v node is (move.Greeted m) main = same_follows n v node is
moved_follows n v node is (move.TookPlain m) main = same_follows n v node is
moved_follows n v node is (move.NrRead m) main = same_follows n v node is
moved_follows n v node is (move.LetGo m) main = same_follows n v node is
moved_follows n v node is (move.Repeated m) main = same_follows n v node is
moved_follows n v node is (move.Quiet i) main = same_follows n v node is
moved_follows n v node is (move.Negotiated m) main = same_follows n v node is
moved_follows n v node is (move.Counted m) main = same_follows n v node is
moved_follows n v node is (move.FrameSent m) main = same_follows n v node is
moved_follows n v node is (move.FrameUp m) main = same_follows n v node is
moved_follows n v node is m main = absurd main

pub moved_all_follows : (n : ℕ) (v : World) (node : Node) → at v.nodes n ≡ Some node → (ms : List Move) → AllByRecursion IsMain ms
    → Follows n v (moved_all n ms v) node.end
unfolding moved_all
moved_all_follows n v node is [] mains = same_follows n v node is
moved_all_follows n v node is (m ∷ ms) mains =
    let g = moved_follows n v node is m mains.0 in
    let w = moved n v m in
    follows_on n v w (moved_all n ms w) node.end g.node.end g (moved_all_follows n w g.node g.is ms mains.1) g.end_is

pub shown_nodes : (n : ℕ) (os : List Out) (w : World) → (shown_all n os w).nodes ≡ w.nodes
unfolding shown_all shown sent
shown_nodes n [] w = refl
shown_nodes n (Send peer bytes o ∷ os) w = shown_nodes n os (sent w n (node_of peer) bytes o)
shown_nodes n (Up session side frame ∷ os) w = shown_nodes n os w
shown_nodes n (Gone session ∷ os) w = shown_nodes n os w
shown_nodes n (Drop x ∷ os) w = shown_nodes n os w
shown_nodes n (Cause x ∷ os) w = shown_nodes n os w

-- ---- a step

module _ (w : World) (number n : ℕ) (node : Node) (sender : Option Sender) (s : Stepped) where
  -- the world with the next end, and after the moves
  abbrev pub before_moves : World
  before_moves = with_node w n (record node { end = s.end })

  abbrev pub after_moves : World
  after_moves = moved_all n s.moves before_moves

  pub step_nodes : (after_step w number n node sender s).world.nodes ≡ after_moves.nodes
  unfolding after_step given
  step_nodes = shown_nodes n s.outputs after_moves

  pub step_done : (after_step w number n node sender s).done ≡ deeds after_moves number n node.end.role sender s.moves
  unfolding after_step given
  step_done = refl

  pub step_follows : AllByRecursion IsMain s.moves → Follows n w (after_step w number n node sender s).world s.end
  step_follows mains =
      let ended : Node = record node { end = s.end } in
      let g = put_follows n w before_moves ended refl in
      let h = follows_on n w before_moves after_moves s.end s.end g (moved_all_follows n before_moves ended (at_new w.nodes n ended) s.moves mains) refl in
      record {
        node = h.node;
        is = rw step_nodes h.is;
        end_is = h.end_is;
        others = λ q o. rw step_nodes (h.others q o);
      }
