-- A tunnel that is reset enters an epoch above the one that it was in before the line.
use Rattle.std.proofs.Common.{◌≡◌, inl, inr, ℕ, ◌+◌, ◌*◌, ◌^◌, ◌<◌, List, [], ◌∷◌, ◌++◌, length, sym, ap, ◌∙◌, subst, Option}
use Rattle.std.proofs.Common.{None, arith}
use Rattle.std.specs.List.{AllByRecursion}
use Rattle.id_table.specs.Ids.{at}
use Rattle.end_model.specs.declared.event.Event.{Event}
use Rattle.end_model.specs.declared.moves.Move.{Move}
use Rattle.end_model.specs.declared.moves.Move.TheVariants as move
use Rattle.end_model.specs.Secrets.{uncovered_event}
use Rattle.end_model.specs.End.{End, Stepped, step}
use Rattle.end_model.specs.Starting.{starts}
use Rattle.session_book.specs.Books.{Kept}
use Rattle.world_model.specs.declared.standing.Standing.{Standing}
use Rattle.world_model.specs.World.{World, Node, Sender, Deed, Lined, standing_in, standing_of, epoch_of, deed_of, given, after_step}
use Rattle.world_model.specs.World.{moved_all, with_node, block_of, opened, tunnel_of}
use Rattle.world_model.specs.Run.{run}
use Rattle.step_laws.specs.Starts.{IsOfStart, StartsAreOfBooks}
use Rattle.frame_laws.specs.Codecs.{Codecs}
use Rattle.frame_laws.proofs.Worlds.{shown_nodes}
use Rattle.channel_laws.specs.Accounts.{History, history_of}
use Rattle.channel_laws.specs.Facts.{NodesHold, Holds}
use Rattle.channel_laws.specs.Lines.{AreHands, WholeStep, WholeStart, LineDoes, Nothing, ANode, Arms, Falls, Steps, Cuts}
use Rattle.channel_laws.specs.Lines.{Starts, LinesDo}
use Rattle.channel_laws.specs.Recoveries.{WrittenHasRoom, WrittenIsRead}
use Rattle.channel_laws.specs.Steps.{moves_on, IsMoved}
use Rattle.channel_laws.specs.Whole.{Leads, NoMove, OneMore, Below, KnowsOfLine, WholeStepsKeep}
use Rattle.channel_laws.proofs.Earlier.{made_after}
use Rattle.channel_laws.proofs.ResetsAnswering as answering
use Rattle.channel_laws.proofs.ResetsAttempting as attempting
use Rattle.line_join_laws.specs.Chains.{JoinedLinesKnow}
use Rattle.line_join_laws.specs.Lines.{CutStepsJoin}
use Rattle.line_join_laws.specs.Runs.{JoinedRunsStand, JoinedRunsStayBelow}
use Rattle.fact_laws.specs.Epochs.{Resets, EntersAnew, EpochsEnterAnew}
use Rattle.fact_laws.proofs.Draws.{both_deeds, all_moves}
use Rattle.fact_laws.proofs.Rising.{leads_stay, entered_stay}

-- ---- a move

-- a move that resets a tunnel is about it
about_reset : (m : Move) (i : ℕ) → Resets m i → tunnel_of m ≡ i
about_reset (move.ResetAttempting m) i is = is
about_reset (move.ResetAnswering m) i is = is
about_reset m i is = absurd is

-- no start resets one
start_resets_none : (k : Kept) (m : Move) → IsOfStart k m → (i : ℕ) → Resets m i → ⊥
start_resets_none k (move.ResetAttempting r) of i is = absurd of
start_resets_none k (move.ResetAnswering r) of i is = absurd of
start_resets_none k m of i is = absurd is

each_move : (P Q : Move → Type 0) (ms : List Move) → ((m : Move) → P m → Q m) → AllByRecursion P ms → AllByRecursion Q ms
each_move P Q [] on all = tt
each_move P Q (m ∷ ms) on all = (on m all.0, each_move P Q ms on all.1)

both_moves : (P : Move → Type 0) (ms ns : List Move) → AllByRecursion P ms → AllByRecursion P ns → AllByRecursion P (ms ++ ns)
both_moves P [] ns one two = two
both_moves P (m ∷ ms) ns one two = (one.0, both_moves P ms ns one.1 two)

-- the tunnels of a node that a move resets are in a later epoch in one world than in another
abbrev Enters : World → World → ℕ → Move → Type 0
Enters w v n m = (i : ℕ) → Resets m i → epoch_of w n i < epoch_of v n i

module _ (codecs : Codecs) (again : WrittenIsRead) (room : WrittenHasRoom) where
  reset_up : (w : World) (h : History) (n : ℕ) (node : Node) (sender : Option Sender) (moment : ℕ) (ev : Event) (m : Move) (x : End)
      (d : Deed)
      → IsMoved w h n node sender moment ev m x d → Enters w (moves_on w n node m x) n m
  reset_up w h n node sender moment ev (move.ResetAttempting m) x d k i is =
      let v = moves_on w n node (move.ResetAttempting m) x in
      let now = ap (λ u. epoch_of u n m.tunnel) (attempting.moves_is codecs again room w h n node sender moment ev m x d k)
      ∙ attempting.epoch_now codecs again room w h n node sender moment ev m x d k in
      subst (λ j. epoch_of w n j < epoch_of v n j) is
      (subst (λ q. epoch_of w n m.tunnel < q) (sym now) (attempting.below codecs again room w h n node sender moment ev m x d k))
  reset_up w h n node sender moment ev (move.ResetAnswering m) x d k i is =
      let v = moves_on w n node (move.ResetAnswering m) x in
      let now = ap (λ u. epoch_of u n m.tunnel) (answering.moves_is w h n node sender moment ev m x d k)
      ∙ answering.epoch_now w h n node sender moment ev m x d k in
      subst (λ j. epoch_of w n j < epoch_of v n j) is
      (subst (λ q. epoch_of w n m.tunnel < q) (sym now) (answering.below w h n node sender moment ev m x d k))
  reset_up w h n node sender moment ev m x d k i is = absurd is

  -- along the moves of a step
  leads_up : (n : ℕ) (sender : Option Sender) (moment : ℕ) (ev : Event) (w : World) (h : History) (ms : List Move) (v : World)
      (g : History)
      → Holds v g → Leads n sender moment ev w h ms v g → AllByRecursion (Enters w v n) ms
  leads_up n sender moment ev w h ms v g holds NoMove = tt
  leads_up n sender moment ev w h ms v g holds (OneMore made u k node m x d start leads is) =
      both_moves (Enters w v n) made (m ∷ [])
      (each_move (Enters w u n) (Enters w v n) made
      (λ b up i resets.
      let lt = up i resets in
      let le = entered_stay u v k g is.holds holds (λ q j e there. made_after k d q j e there) n i in
      omega (arith, lt, le))
      (leads_up n sender moment ev w h made u k is.holds leads)) (
        λ i resets.
            (let lt : epoch_of u n i < epoch_of v n i = reset_up u k n node sender moment ev m x d is i resets in
            let le = (leads_stay codecs again room n sender moment ev w h made u k is.holds leads).entered n i in
            omega (arith, lt, le)),
        tt,
      )

-- ---- the deeds of a line

module _ (w : World) (number : ℕ) where
  hands_enter : (ds : List Deed) → AreHands number ds → AllByRecursion (EntersAnew w) ds
  hands_enter ds (inl none) = subst (AllByRecursion (EntersAnew w)) (sym none) tt
  hands_enter ds (inr (n, r, f, is)) = subst (AllByRecursion (EntersAnew w)) (sym is) (λ i resets. absurd resets, tt)

  module _ (base : World) (n : ℕ) (node : Node) (sender : Option Sender) (s : Stepped) where
    abbrev moved_to : World
    moved_to = moved_all n s.moves (with_node base n (record node { end = s.end }))

    abbrev deed : Move → Deed
    deed m = deed_of moved_to number n node.end.role sender m

    -- what is sent changes nothing of tunnels
    shown_standing : (i : ℕ) → standing_of (after_step base number n node sender s).world n i ≡ standing_of moved_to n i
    unfolding after_step given standing_of
    shown_standing i = ap (λ l. standing_in (at l n) i) (shown_nodes n s.outputs moved_to)

    moves_enter : (u : World) → ((i : ℕ) → standing_of u n i ≡ standing_of (after_step base number n node sender s).world n i)
        → AllByRecursion (Enters w u n) s.moves → AllByRecursion (EntersAnew w) (after_step base number n node sender s).done
    unfolding after_step given
    moves_enter u alike all =
        all_moves (Enters w u n) (EntersAnew w) deed s.moves
        (λ m up i resets.
        let same : epoch_of u n i ≡ epoch_of moved_to n i = ap (λ (y : Standing). y.epoch) (alike i ∙ shown_standing i) in
        subst (λ j. epoch_of w n i < epoch_of moved_to n j) (sym (about_reset m i resets))
        (subst (λ q. epoch_of w n i < q) same (up i resets)))
        all

    start_enters : (k : Kept) → AllByRecursion (IsOfStart k) s.moves
        → AllByRecursion (EntersAnew w) (after_step base number n node sender s).done
    unfolding after_step given
    start_enters k all =
        all_moves (IsOfStart k) (EntersAnew w) deed s.moves (λ m of i resets. absurd (start_resets_none k m of i resets)) all

module _ (codecs : Codecs) (again : WrittenIsRead) (room : WrittenHasRoom) (steps : WholeStepsKeep) (of_books : StartsAreOfBooks)
    (w : World)
    (h : History)
    (number : ℕ) (x : Lined) (most : ℕ) (nodes : NodesHold w) (holds : Holds w h) (below : Below h most) (few : most + 147460 < 2 ^ 64)
    (knows : KnowsOfLine w h) where
  step_enters : (k : WholeStep w number x) → AllByRecursion (EntersAnew w) x.done
  step_enters k =
      let along = knows k.node k.old k.found k.event k.sender k.was k.up k.finds k.comes in
      let q = steps w h number x k most nodes holds below few along in
      let s = step k.found.end k.found.clock (block_of k.node number) k.event in
      let node = record k.found { checkpoint = k.checkpoint } in
      let up = leads_up codecs again room k.node k.sender k.found.clock (uncovered_event k.found.end.config.secret k.event) w h _ q.behind _
      q.holds_behind q.leads in
      let alike : (i : ℕ) → standing_of q.behind k.node i ≡ standing_of (after_step k.base number k.node node k.sender s).world k.node i =
      (λ i. sym (q.alike.standings k.node i) ∙ ap (λ v. standing_of v k.node i) k.world) in
      subst (AllByRecursion (EntersAnew w)) (sym k.done)
      (both_deeds (EntersAnew w) k.hands _ (hands_enter w number k.hands k.are_hands)
      (moves_enter w number k.base k.node node k.sender s q.behind alike up))

  begin_enters : (k : WholeStart w number x) → AllByRecursion (EntersAnew w) x.done
  begin_enters k =
      let b = k.old.checkpoint.book in
      let s = starts k.old.end.role k.old.end.config b k.old.clock (block_of k.node number) in
      let node = record (opened (block_of k.node number) k.old) { checkpoint = k.checkpoint } in
      let of = of_books k.old.end.role k.old.end.config b (nodes k.node k.old k.was).sound k.old.clock (block_of k.node number) in
      subst (λ (l : Lined). AllByRecursion (EntersAnew w) l.done) (sym k.is) (start_enters w number w k.node node None s b of)

  none_enters : x.done ≡ [] → AllByRecursion (EntersAnew w) x.done
  none_enters none = subst (AllByRecursion (EntersAnew w)) (sym none) tt

  enters : LineDoes w number x → AllByRecursion (EntersAnew w) x.done
  enters (Nothing same hands none) = hands_enter w number x.done hands
  enters (ANode n role lns secret hide lt to fresh world done none) = none_enters done
  enters (Arms k stop world done none) = none_enters done
  enters (Falls k world done none) = none_enters done
  enters (Steps k) = step_enters k
  enters (Cuts k) = none_enters k.done
  enters (Starts k) = begin_enters k

-- ---- after a run

-- the laws that are used
pub record EnteringLaws : Type 0 where
  pub codecs : Codecs
  pub again : WrittenIsRead
  pub room : WrittenHasRoom
  pub steps : WholeStepsKeep
  pub of_books : StartsAreOfBooks
  pub cuts : CutStepsJoin
  pub know : JoinedLinesKnow
  pub stand : JoinedRunsStand
  pub below : JoinedRunsStayBelow
  pub lines : LinesDo

pub epochs_enter_anew : EnteringLaws → EpochsEnterAnew
epochs_enter_anew laws lines fits few number l x fits_line is =
    let w = (run lines).world in
    let h = history_of (run lines).done in
    let s = laws.stand laws.cuts lines fits few in
    enters laws.codecs laws.again laws.room laws.steps laws.of_books w h number x (81919 * length lines) s.nodes s.holds
    (laws.below laws.cuts lines fits few)
    (omega (arith, few))
    (laws.know w h (65536 * length lines) s (omega (arith, few)))
    (laws.lines w number l x fits_line is)
