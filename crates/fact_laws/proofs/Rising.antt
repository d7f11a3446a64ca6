-- No line makes the epoch of a tunnel less, nor the number of epochs that were made of its link: along the moves of a step neither falls,
-- and what is no step leaves both as they are.
use Rattle.std.proofs.Common.{◌≡◌, ◌⊎◌, inl, inr, ⊎_elim, ℕ, ◌+◌, ◌^◌, ◌<◌, ◌≤◌, List, [], refl, sym, ap, ◌∙◌, subst, Option, Some, None}
use Rattle.std.proofs.Common.{arith}
use Rattle.std.specs.Prelude.{unwrap_or}
use Rattle.id_table.specs.Ids.{at, put, ids_of, at-none}
use Rattle.id_table.specs.Order.{at_new, at_other, same_or_not}
use Rattle.end_names.specs.Names.{node_of}
use Rattle.end_model.specs.declared.event.Event.{Event}
use Rattle.end_model.specs.declared.event.Event.TheVariants.{Tick}
use Rattle.end_model.specs.declared.moves.Move.{Move}
use Rattle.end_model.specs.declared.moves.Move.TheVariants as move
use Rattle.end_model.specs.Secrets.{uncovered_event}
use Rattle.end_model.specs.End.{End}
use Rattle.world_model.specs.declared.standing.Standing.{Standing}
use Rattle.world_model.specs.World.{World, Node, Sender, Deed, Lined, no_standing, standing_in, standing_of, epoch_of, birth_of}
use Rattle.world_model.specs.World.{answer_in, with_node, with_stop}
use Rattle.world_model.specs.World.{fallen, without_held, cut_line, block_of, is_born, moved, new_node}
use Rattle.frame_laws.specs.Codecs.{Codecs}
use Rattle.step_laws.specs.Starts.{IsOfStart}
use Rattle.channel_laws.specs.Accounts.{Part, Unmade, Opener, Acceptor, Renewed, History}
use Rattle.channel_laws.specs.Facts.{IsMade, NodesHold, Holds}
use Rattle.channel_laws.specs.Lines.{AreSame, Finds, WholeStep, CutStep, WholeStart, LineDoes, Nothing, ANode, Arms, Falls, Steps, Cuts}
use Rattle.channel_laws.specs.Lines.{Starts}
use Rattle.channel_laws.specs.Recoveries.{WrittenHasRoom, WrittenIsRead}
use Rattle.channel_laws.specs.Steps.{with_end, moves_on, IsMoved}
use Rattle.channel_laws.specs.Whole.{Leads, NoMove, OneMore, LeadsBack, NoMoveBack, OneMoreBack, Below, KnowsOfLine, WholeStepsKeep}
use Rattle.channel_laws.specs.Whole.{StartsKeep}
use Rattle.channel_laws.proofs.Earlier.{made_after}
use Rattle.channel_laws.proofs.Entering.{base_same}
use Rattle.channel_laws.proofs.Freezing.{moves_is, counts}
use Rattle.channel_laws.proofs.Resting.{after_loss}
use Rattle.line_join_laws.proofs.Counting.{birth_standing, born_standing, enters_made}
use Rattle.line_join_laws.specs.Chains.{JoinedLinesKnow}
use Rattle.line_join_laws.specs.Lines.{CutStepsJoin}
use Rattle.line_join_laws.specs.Runs.{JoinedRunsStand, JoinedRunsStayBelow}
use Rattle.world_model.specs.Run.{run}
use Rattle.std.specs.Prelude.{◌*◌, length}
use Rattle.channel_laws.specs.Accounts.{history_of}
use Rattle.channel_laws.specs.Lines.{LinesDo}
use Rattle.fact_laws.specs.Epochs.{EpochsStay, LinesRaiseEpochs, EpochsRise}

stay_on : (u v w : World) → EpochsStay u v → EpochsStay v w → EpochsStay u w
stay_on u v w one two = record {
  entered = λ n i. (let a = one.entered n i in let b = two.entered n i in omega (arith, a, b));
  made = λ n i. (let a = one.made n i in let b = two.made n i in omega (arith, a, b));
}

-- where nothing else is kept of tunnels
stay_alike : (w v : World) → ((n i : ℕ) → epoch_of v n i ≡ epoch_of w n i)
    → ((n i : ℕ) → (standing_of v n i).made ≡ (standing_of w n i).made)
    → EpochsStay w v
stay_alike w v epochs made = record {
  entered = λ n i. (let e = epochs n i in omega (arith, e));
  made = λ n i. (let e = made n i in omega (arith, e));
}

stay_same : (w v : World) → ((n i : ℕ) → standing_of v n i ≡ standing_of w n i) → EpochsStay w v
stay_same w v same =
    stay_alike w v (λ n i. ap (λ (s : Standing). s.epoch) (same n i)) (λ n i. ap (λ (s : Standing). s.made) (same n i))

-- ---- epochs, by what channels tell: a tunnel has entered none above the one in which it is

none_or_made : (p : Part) → (p ≡ Unmade) ⊎ (p ≡ Unmade → ⊥)
none_or_made Unmade = inl refl
none_or_made Opener = inr (λ is. cc)
none_or_made Acceptor = inr (λ is. cc)
none_or_made Renewed = inr (λ is. cc)

module _ (w v : World) (h g : History) (before : Holds w h) (behind : Holds v g)
    (made : (n i e : ℕ) → IsMade (h.accounts n i e) → IsMade (g.accounts n i e)) where
  pub entered_stay : (n i : ℕ) → epoch_of w n i ≤ epoch_of v n i
  entered_stay n i = ⊎_elim
      (λ none. (let bare : epoch_of w n i ≡ 0 = ap (λ (s : Standing). s.epoch) ((before.standings n i).none none) in omega (arith, bare)))
      (λ there. (behind.accounts n i (epoch_of w n i)).entered (made n i (epoch_of w n i) ((before.standings n i).entered there)))
      (none_or_made (h.accounts n i 0).part)

-- ---- how many epochs were made, in a move

module _ (codecs : Codecs) (again : WrittenIsRead) (room : WrittenHasRoom) where
  -- what a move that freezes no tunnel makes of the counts
  abbrev Counts : World → World → Type 0
  Counts w v = (q j : ℕ) → (standing_of w q j).made ≤ (standing_of v q j).made

  counts_same : (w v : World) → ((q j : ℕ) → (standing_of v q j).made ≡ (standing_of w q j).made) → Counts w v
  counts_same w v same q j = let e = same q j in omega (arith, e)

  counts_base : (w : World) (n : ℕ) (node : Node) → at w.nodes n ≡ Some node → (x : End) (v : World)
      → ((q j : ℕ) → (standing_of v q j).made ≡ (standing_of (with_end w n node x) q j).made) → Counts w v
  counts_base w n node there x v same =
      counts_same w v (λ q j. same q j ∙ ap (λ (s : Standing). s.made) (base_same w n node there x q j))

  move_counts : (w : World) (h : History) (n : ℕ) (node : Node) (sender : Option Sender) (moment : ℕ) (ev : Event) (m : Move) (x : End)
      (d : Deed)
      → IsMoved w h n node sender moment ev m x d → Counts w (moves_on w n node m x)
  unfolding moved is_born
  move_counts w h n node sender moment ev (move.Froze m) x d k q j =
      let v = moves_on w n node (move.Froze m) x in
      let is = ap (λ u. (standing_of u q j).made) (moves_is codecs again room w h n node sender moment ev m x d k) in
      ⊎_elim (λ same. omega (arith, same, is)) (λ p. (let up = p.0 in let le = p.1 in omega (arith, up, le, is)))
      (counts codecs again room w h n node sender moment ev m x d k q j)
  move_counts w h n node sender moment ev (move.Added m) x d k q j =
      let u = with_end w n node x in
      counts_base w n node k.there x (moves_on w n node (move.Added m) x)
      (λ p i. ap (λ (s : Standing). s.made) (birth_standing _ n m.session _ p i ∙ born_standing u _ p i)) q j
  move_counts w h n node sender moment ev (move.Replied m) x d k q j =
      let u = with_end w n node x in
      counts_base w n node k.there x (moves_on w n node (move.Replied m) x)
      (λ p i. ap (λ (s : Standing). s.made) (birth_standing u n m.session (birth_of u (node_of m.peer) m.remote) p i)) q j
  move_counts w h n node sender moment ev (move.ResetAttempting m) x d k q j =
      let u = with_end w n node x in
      counts_base w n node k.there x (moves_on w n node (move.ResetAttempting m) x)
      (λ p i. enters_made u n m.tunnel (answer_in (at u.nodes (node_of m.peer)) m.answer) p i) q j
  move_counts w h n node sender moment ev (move.ResetAnswering m) x d k q j =
      let u = with_end w n node x in
      counts_base w n node k.there x (moves_on w n node (move.ResetAnswering m) x)
      (λ p i. enters_made u n m.tunnel (answer_in (at u.nodes n) m.answer) p i) q j
  move_counts w h n node sender moment ev m x d k q j = counts_base w n node k.there x (moves_on w n node m x) (λ p i. refl) q j

  -- along the moves of a step
  pub leads_stay : (n : ℕ) (sender : Option Sender) (moment : ℕ) (ev : Event) (w : World) (h : History) (ms : List Move) (v : World)
      (g : History)
      → Holds v g → Leads n sender moment ev w h ms v g → EpochsStay w v
  leads_stay n sender moment ev w h ms v g holds NoMove = stay_same w w (λ q j. refl)
  leads_stay n sender moment ev w h ms v g holds (OneMore made u k node m x d start leads is) =
      stay_on w u v (leads_stay n sender moment ev w h made u k is.holds leads)
      (record {
        entered = entered_stay u v k g is.holds holds (λ q j e there. made_after k d q j e there);
        made = move_counts u k n node sender moment ev m x d is;
      })

-- ---- a start makes no epoch, and no tunnel enters one

start_same : (w : World) (n : ℕ) (node : Node) (m : Move) (x : End) → at w.nodes n ≡ Some node → IsOfStart node.checkpoint.book m
    → (q j : ℕ) → standing_of (moves_on w n node m x) q j ≡ standing_of w q j
unfolding moved
start_same w n node (move.Restored m) x there of q j = base_same w n node there x q j
start_same w n node (move.Forgot m) x there of q j = base_same w n node there x q j
start_same w n node (move.Negotiated m) x there of q j = base_same w n node there x q j
start_same w n node (move.Counted m) x there of q j = base_same w n node there x q j
start_same w n node (move.FrameSent m) x there of q j = base_same w n node there x q j
start_same w n node m x there of q j = absurd of

back_stay : (n moment : ℕ) (ev : Event) (w : World) (h : History) (ms : List Move) (v : World) (g : History)
    → LeadsBack n moment ev w h ms v g
    → EpochsStay w v
back_stay n moment ev w h ms v g NoMoveBack = stay_same w w (λ q j. refl)
back_stay n moment ev w h ms v g (OneMoreBack made u k node m x d leads is) =
    stay_on w u v (back_stay n moment ev w h made u k leads) (stay_same u v (start_same u n node m x is.there is.of))

-- ---- lines in which no node makes a step

module _ (w : World) where
  same_stay : (v : World) → AreSame w v → EpochsStay w v
  unfolding standing_of
  same_stay v same = stay_same w v (λ q i. ap (λ l. standing_in (at l q) i) same.nodes)

  -- a node that keeps the same of its tunnels
  put_stay : (base : World) → AreSame w base → (n : ℕ) (old new : Node) → at w.nodes n ≡ Some old
      → ((i : ℕ) → (standing_in (Some new) i).epoch ≡ (standing_in (Some old) i).epoch)
      → ((i : ℕ) → (standing_in (Some new) i).made ≡ (standing_in (Some old) i).made) → EpochsStay w (with_node base n new)
  unfolding standing_of
  put_stay base same n old new was epochs made =
      stay_alike w (with_node base n new) (λ q i. of_part (λ (s : Standing). s.epoch) epochs q i)
      (λ q i. of_part (λ (s : Standing). s.made) made q i)
    where
      of_part : (f : Standing → ℕ) → ((i : ℕ) → f (standing_in (Some new) i) ≡ f (standing_in (Some old) i)) → (q i : ℕ)
          → f (standing_in (at (put base.nodes n new) q) i) ≡ f (standing_in (at w.nodes q) i)
      of_part f own q i = ⊎_elim
          (λ (e : q ≡ n).
          ap (λ y. f (standing_in (at (put base.nodes n new) y) i)) e
          ∙ (ap (λ o. f (standing_in o i)) (at_new base.nodes n new)
          ∙ (own i ∙ (sym (ap (λ o. f (standing_in o i)) was) ∙ ap (λ y. f (standing_in (at w.nodes y) i)) (sym e)))))
          (λ (o : q ≡ n → ⊥).
          ap (λ p. f (standing_in p i)) (at_other base.nodes n new q o) ∙ ap (λ l. f (standing_in (at l q) i)) same.nodes)
          (same_or_not q n)

  itself : AreSame w w
  itself = record { nodes = refl; packets = refl; born = refl }

  declared_stay : (number n : ℕ) (new : Node) → at w.nodes n ≡ None → new.standings ≡ [] → EpochsStay w (with_node w n new)
  unfolding standing_of
  declared_stay number n new none bare =
      stay_same w (with_node w n new) (λ q i. ⊎_elim
      (λ (e : q ≡ n).
      ap (λ y. standing_in (at (put w.nodes n new) y) i) e
      ∙ (ap (λ o. standing_in o i) (at_new w.nodes n new)
      ∙ (ap (λ l. unwrap_or (at l i) no_standing) bare
      ∙ (ap (λ (o : Option Standing). unwrap_or o no_standing) (at-none i)
      ∙ (sym (ap (λ o. standing_in o i) none) ∙ ap (λ y. standing_in (at w.nodes y) i) (sym e))))))
      (λ (o : q ≡ n → ⊥). ap (λ p. standing_in p i) (at_other w.nodes n new q o))
      (same_or_not q n))

  -- one that falls, with what a stop kept
  fallen_stay : (number n : ℕ) (base : World) → AreSame w base → (old found : Node) → at w.nodes n ≡ Some old → Finds old found
      → (k : _) → EpochsStay w (without_held (with_node base n (fallen (block_of n number) found.end found k)) n)
  unfolding fallen standing_of
  fallen_stay number n base same old found was finds k =
      let new = fallen (block_of n number) found.end found k in
      let standing_was : (i : ℕ) → unwrap_or (at found.standings i) no_standing ≡ unwrap_or (at old.standings i) no_standing =
      (λ i. ap (λ xs. unwrap_or (at xs i) no_standing) finds.standings) in
      let put_in = put_stay base same n old new was
      (λ i. (after_loss found.end i (ids_of found.end.tunnels) found.standings).0 ∙ ap (λ (x : Standing). x.epoch) (standing_was i))
      (λ i. (after_loss found.end i (ids_of found.end.tunnels) found.standings).1.0 ∙ ap (λ (x : Standing). x.made) (standing_was i)) in
      record { entered = put_in.entered; made = put_in.made }

  found_itself : (old : Node) → Finds old old
  found_itself old = record { end = refl; checkpoint = refl; births = refl; standings = refl; answers = refl }

-- ---- any line

module _ (codecs : Codecs) (again : WrittenIsRead) (room : WrittenHasRoom) (steps : WholeStepsKeep) (starts : StartsKeep) (w : World)
    (h : History)
    (number : ℕ) (x : Lined) (most : ℕ) (nodes : NodesHold w) (holds : Holds w h) (below : Below h most) (few : most + 147460 < 2 ^ 64)
    (knows : KnowsOfLine w h) where
  step_stays : (k : WholeStep w number x) → EpochsStay w x.world
  step_stays k =
      let along = knows k.node k.old k.found k.event k.sender k.was k.up k.finds k.comes in
      let q = steps w h number x k most nodes holds below few along in
      let led = leads_stay codecs again room k.node k.sender k.found.clock
      (uncovered_event k.found.end.config.secret k.event) w h _ q.behind _
      q.holds_behind q.leads in
      stay_on w q.behind x.world led (stay_same q.behind x.world q.alike.standings)

  start_stays : (k : WholeStart w number x) → EpochsStay w x.world
  start_stays k =
      let q = starts w h number x k most nodes holds below (omega (arith, few)) in
      stay_on w q.behind x.world (back_stay k.node k.old.clock Tick w h _ q.behind _ q.leads) (stay_same q.behind x.world q.alike.standings)

  cut_stays : (k : CutStep w number x) → EpochsStay w x.world
  unfolding cut_line
  cut_stays k = subst (EpochsStay w) (sym k.world) (fallen_stay w number k.node k.base k.same k.old k.found k.was k.finds k.checkpoint)

  stays : LineDoes w number x → EpochsStay w x.world
  stays (Nothing same hands none) = same_stay w x.world same
  stays (ANode n role lns secret hide lt to fresh world done none) =
      subst (EpochsStay w) (sym world) (declared_stay w number n (new_node number n role lns secret hide) fresh refl)
  stays (Arms k stop world done none) =
      subst (EpochsStay w) (sym world)
      (put_stay w w (itself w) k.node k.old (record k.old { checkpoint = with_stop (Some stop) k.old.checkpoint }) k.was (λ i. refl)
      (λ i. refl))
  stays (Falls k world done none) =
      subst (EpochsStay w) (sym world)
      (fallen_stay w number k.node w (itself w) k.old k.old k.was (found_itself w k.old) k.old.checkpoint)
  stays (Steps k) = step_stays k
  stays (Cuts k) = cut_stays k
  stays (Starts k) = start_stays k

pub lines_raise_epochs : Codecs → WrittenIsRead → WrittenHasRoom → WholeStepsKeep → StartsKeep → LinesRaiseEpochs
lines_raise_epochs codecs again room steps starts w h number x most nodes holds below few does knows =
    stays codecs again room steps starts w h number x most nodes holds below few knows does

-- ---- after a run

pub epochs_rise : CutStepsJoin → LinesRaiseEpochs → JoinedLinesKnow → JoinedRunsStand → JoinedRunsStayBelow → LinesDo → EpochsRise
epochs_rise cuts raise know stand stays_below does lines fits few number l x fits_line is =
    let w = (run lines).world in
    let h = history_of (run lines).done in
    let s = stand cuts lines fits few in
    raise w h number x (81919 * length lines) s.nodes s.holds (stays_below cuts lines fits few) (omega (arith, few))
    (does w number l x fits_line is)
    (know w h (65536 * length lines) s (omega (arith, few)))
