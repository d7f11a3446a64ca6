-- Each line keeps all that holds of a world that is joined.
use Rattle.std.proofs.Common.{◌≡◌, inl, inr, ⊎_elim, ℕ, ◌+◌, ◌^◌, ◌<◌, Bool, List, refl, sym, ap, ◌∙◌, subst, Option, Some, None, arith}
use Rattle.std.specs.Prelude.{unwrap_or}
use Rattle.id_table.specs.Ids.{at, at-none}
use Rattle.id_table.specs.Order.{at_new, at_other, same_or_not}
use Rattle.end_names.specs.declared.role.Role.{Role}
use Rattle.world_model.specs.declared.standing.Standing.{Standing}
use Rattle.world_model.specs.declared.stop.StopAt.{StopAt}
use Rattle.world_model.specs.World.{World, Checkpoint, Lined, no_standing, standing_in, standing_of, with_node, with_stop, new_node}
use Rattle.world_model.specs.World.{fallen, without_held, block_of}
use Rattle.channel_laws.specs.Accounts.{History, history_from}
use Rattle.channel_laws.specs.Facts.{NodesHold, Holds}
use Rattle.channel_laws.specs.Lines.{AreSame, OfNode, LineDoes, Nothing, ANode, Arms, Falls, Steps, Cuts, Starts}
use Rattle.channel_laws.specs.Whole.{Below, WholeStepsKeep, LinesKeep}
use Rattle.channel_laws.proofs.Agreeing.{put_standing}
use Rattle.channel_laws.proofs.Resting.{RestsBy, fell, fell_rests, made_rests, rests_but}
use Rattle.epoch_laws.specs.Answers.{AnswersOfRuns}
use Rattle.recovery_laws.specs.Answered.{AnswersAreToQuestions}
use Rattle.end_model.specs.Contents.{contents_of}
use Rattle.recovery_laws.proofs.Nodes.{no_cut}
use Rattle.recovery_laws.specs.Standing.{Stands, Rests, RestingLinesKeep}
use Rattle.join_laws.specs.Steps.{ChannelsClose}
use Rattle.join_laws.specs.Roles.{RequestsStay}
use Rattle.line_join_laws.specs.Chains.{MovesJoin, EndsSound, CountsWithin, NoneIsArmed, IsStanding}
use Rattle.line_join_laws.specs.Lines.{CutStepsJoin, StartsJoin, JoinedLinesKeep}
use Rattle.line_join_laws.proofs.Chain.{joined_lines_know}
use Rattle.line_join_laws.proofs.Roles.{rested_roles}
use Rattle.line_join_laws.proofs.Stepped.{joined_steps_keep}

-- ---- counts in a line in which no node makes a step

module _ (w : World) (top : ℕ) (c : CountsWithin w top) where
  -- as many epochs of each tunnel
  counts_as : (v : World) → v.born ≡ w.born → ((q i : ℕ) → (standing_of v q i).made ≡ (standing_of w q i).made)
      → CountsWithin v (top + 65536)
  counts_as v born made = record {
    born = (let le = c.born in omega (arith, le, born));
    made = λ q i. (let le = c.made q i in let same = made q i in omega (arith, le, same));
  }

  same_counts : (v : World) → AreSame w v → CountsWithin v (top + 65536)
  unfolding standing_of
  same_counts v same = counts_as v same.born (λ q i. ap (λ l. (standing_in (at l q) i).made) same.nodes)

  armed_counts : (k : OfNode w) (s : StopAt) → CountsWithin (with_node w k.node (record k.old {
    checkpoint = with_stop
        (Some s) k.old.checkpoint;
  }))
      (top + 65536)
  armed_counts k s =
      let new = record k.old { checkpoint = with_stop (Some s) k.old.checkpoint } in
      counts_as (with_node w k.node new) refl
      (λ q i. ap (λ (y : Standing). y.made)
      (put_standing w k.node k.old new k.was q i
      (⊎_elim (λ (e : q ≡ k.node). inr (e, refl)) (λ (o : q ≡ k.node → ⊥). inl o) (same_or_not q k.node))))

  declared_counts : (number n : ℕ) (r : Role) (lns : ℕ) (secret : Option (List ℕ)) (hide : Bool) → at w.nodes n ≡ None
      → CountsWithin (with_node w n (new_node number n r lns secret hide)) (top + 65536)
  unfolding standing_of
  declared_counts number n r lns secret hide none =
      let new = new_node number n r lns secret hide in
      let v = with_node w n new in
      counts_as v refl
      (λ q i. ⊎_elim
      (λ (e : q ≡ n).
      ap (λ y. (standing_in (at v.nodes y) i).made) e
      ∙ (ap (λ o. (standing_in o i).made) (at_new w.nodes n new)
      ∙ (ap (λ (o : Option Standing). (unwrap_or o no_standing).made) (at-none i)
      ∙ sym (ap (λ y. (standing_in (at w.nodes y) i).made) e ∙ ap (λ o. (standing_in o i).made) none))))
      (λ (o : q ≡ n → ⊥). ap (λ p. (standing_in p i).made) (at_other w.nodes n new q o))
      (same_or_not q n))

  fallen_counts : (h : History) (holds : Holds w h) (nodes : NodesHold w) (number : ℕ) (k : OfNode w)
      → CountsWithin (without_held (with_node w k.node (fallen (block_of k.node number) k.old.end k.old k.old.checkpoint)) k.node)
      (top + 65536)
  unfolding standing_of
  fallen_counts h holds nodes number k =
      let old = nodes k.node k.old k.was in
      let new = fell w h number k.node k.old k.was k.up old holds in
      let v = with_node w k.node new in
      let rests : (q : ℕ) → RestsBy h q (at w.nodes q) (at v.nodes q) =
      rests_but w h k.node k.old new k.was holds (fell_rests w h number k.node k.old k.was k.up old holds) in
      let in_v = counts_as v refl (made_rests w v h rests) in
      record { born = in_v.born; made = in_v.made }

-- ---- lines

module _ (once : AnswersOfRuns) (answers : AnswersAreToQuestions) (closes : ChannelsClose) (requests : RequestsStay)
    (steps : WholeStepsKeep) (lines : LinesKeep) (resting : RestingLinesKeep) (starts : StartsJoin) (join : MovesJoin) (cuts : CutStepsJoin)
    (w : World) (h : History) (number : ℕ) (x : Lined) (top most : ℕ) (s : IsStanding w h top) (room : top + 131072 < 2 ^ 64)
    (below : Below h most) (few : most + 147460 < 2 ^ 64)
    (does : LineDoes w number x) (unarmed : NoneIsArmed w) (nodes : NodesHold x.world) (sound : EndsSound x.world) where
  abbrev g : History
  g = history_from x.done h

  kept : Holds x.world g × Below g (most + 81919)
  kept = lines w h number x most s.nodes s.holds below few does (joined_lines_know once answers closes requests join w h top s room)

  rested : (d : LineDoes w number x) → Rests d → CountsWithin x.world (top + 65536) → IsStanding x.world g (top + 65536)
  rested d rests counts =
      let stands : Stands w h = record {
        holds = s.holds;
        machine = s.machine;
        joined = s.joined.joined;
        queries = s.joined.queries;
        named =
            s.joined.named;
      } in
      let k = resting w h number x s.nodes stands d rests in
      record {
        nodes = nodes;
        sound = sound;
        holds = kept.0;
        machine = k.machine;
        joined = record { joined = k.joined; queries = k.queries; named = k.named };
        answers = answers.later x.done h s.answers;
        closes = closes.later x.done h s.closes;
        roles = rested_roles requests w h number x s.holds s.roles d rests;
        counts = counts;
      }

  stands_by : LineDoes w number x → IsStanding x.world g (top + 65536)
  stands_by (Nothing same hands none) = rested (Nothing same hands none) tt (same_counts w top s.counts x.world same)
  stands_by (ANode n role lns secret hide lt to fresh world done none) =
      rested (ANode n role lns secret hide lt to fresh world done none) tt
      (subst (λ v. CountsWithin v (top + 65536)) (sym world) (declared_counts w top s.counts number n role lns secret hide fresh))
  stands_by (Arms k stop world done none) =
      rested (Arms k stop world done none) tt
      (subst (λ v. CountsWithin v (top + 65536)) (sym world) (armed_counts w top s.counts k stop))
  stands_by (Falls k world done none) =
      rested (Falls k world done none) tt
      (subst (λ v. CountsWithin v (top + 65536)) (sym world) (fallen_counts w top s.counts h s.holds s.nodes number k))
  stands_by (Steps k) = joined_steps_keep once answers closes requests steps join w h number x k top most s room below few nodes sound
  stands_by (Cuts k) = ⊎_elim
      (λ up. cuts w h number x k top most up.0 s room below few nodes sound kept.0)
      (λ start.
      absurd (no_cut k.found.checkpoint (contents_of k.found.end k.stepped)
      (ap (λ (c : Checkpoint). c.stop) k.finds.checkpoint ∙ unarmed k.node k.old k.was start.0) k.checkpoint k.cut))
      k.of
  stands_by (Starts k) = starts w h number x k top most s room below few nodes sound kept.0

  pub line_stands : IsStanding x.world (history_from x.done h) (top + 65536) × Below (history_from x.done h) (most + 81919)
  line_stands = (stands_by does, kept.1)

pub joined_lines_keep : AnswersOfRuns → AnswersAreToQuestions → ChannelsClose → RequestsStay → WholeStepsKeep
    → LinesKeep → RestingLinesKeep → StartsJoin → MovesJoin → JoinedLinesKeep
joined_lines_keep once answers closes requests steps lines resting starts join cuts w h number x top most s room below few does unarmed
    nodes sound =
    line_stands once answers closes requests steps lines resting starts join cuts w h number x top most s room below few does unarmed nodes
    sound
