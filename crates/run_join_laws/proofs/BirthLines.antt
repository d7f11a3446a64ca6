-- Each line keeps it that no birth is of two sessions of ends of one kind: a step by its moves, and any other line changes no birth.
use Rattle.std.proofs.Common.{◌≡◌, ⊎_elim, ℕ, ◌+◌, ◌^◌, ◌<◌, true, List, [], refl, sym, ap, ◌∙◌, subst, Option, Some, None, arith}
use Rattle.std.proofs.lemmas.Option.{none-some, same_Some}
use Rattle.std.specs.Prelude.{unwrap_or}
use Rattle.id_table.specs.Ids.{at, at-none}
use Rattle.id_table.specs.Order.{at_new, at_other, same_or_not}
use Rattle.end_model.specs.declared.event.Event.{Event}
use Rattle.end_model.specs.declared.moves.Move.{Move}
use Rattle.end_model.specs.Secrets.{uncovered_event}
use Rattle.end_model.specs.End.{End}
use Rattle.world_model.specs.World.{World, Node, Sender, Lined, birth_in, birth_of, with_node, with_stop, new_node, fallen, block_of}
use Rattle.world_model.specs.World.{cut_line, empty_world}
use Rattle.step_laws.specs.Left.{AreSound}
use Rattle.step_laws.specs.Starts.{StartsAreOfBooks}
use Rattle.book_laws.specs.Starts.{StartsAreBooked}
use Rattle.birth_laws.specs.Births.{BirthsOfRuns}
use Rattle.epoch_machine.specs.Worlds as machine
use Rattle.epoch_machine.specs.Worlds.{all_rules}
use Rattle.epoch_machine.specs.Moves.{goes_on}
use Rattle.epoch_laws.specs.Answers.{AnswersOfRuns}
use Rattle.channel_laws.specs.Accounts.{History, history_from}
use Rattle.channel_laws.specs.Facts.{Holds}
use Rattle.channel_laws.specs.Lines.{OfNode, WholeStep, CutStep, WholeStart, LineDoes, Nothing, ANode, Arms, Falls, Steps, Cuts, Starts}
use Rattle.channel_laws.specs.Whole.{Leads, NoMove, OneMore, Below, StartsKeep, WholeStepsKeep, stepped_in}
use Rattle.recovery_laws.specs.Answered.{AnswersAreToQuestions}
use Rattle.join_laws.specs.Roles.{RequestsStay}
use Rattle.join_laws.specs.Steps.{with_book, ChannelsClose}
use Rattle.join_laws.proofs.Books.{booked, book_here, book_other, book_born}
use Rattle.line_join_laws.specs.Chains.{MovesJoin, IsStanding}
use Rattle.line_join_laws.specs.Runs.{IsCarried}
use Rattle.line_join_laws.proofs.Amid.{Amid}
use Rattle.line_join_laws.proofs.Born.{put_born}
use Rattle.line_join_laws.proofs.Chain.{amid_along}
use Rattle.line_join_laws.proofs.Nodes.{left_there}
use Rattle.line_join_laws.proofs.Rebooked.{book_births}
use Rattle.line_join_laws.proofs.Roles.{put_keeps, same_keeps}
use Rattle.line_join_laws.proofs.Started as started
use Rattle.line_join_laws.proofs.Stepped as stepped
use Rattle.run_join_laws.specs.Births.{BirthsAreDrawn}
use Rattle.run_join_laws.proofs.Calls.{Known, known_by}
use Rattle.run_join_laws.proofs.BirthMoves.{BirthsHold, AreOlder, roles_older, births_stay, move_keeps}

-- ---- the moves of a step

-- what is known amid it
module _ (runs : BirthsOfRuns) (drawn : BirthsAreDrawn) (ev : Event) (n top : ℕ) (j0 : machine.World) (v : World) (g : History)
    (a : Amid ev n top j0 v g) (holds : Holds v g) where
  abbrev book_world : World
  book_world = with_book v n a.book

  ends : (q : ℕ) (node : Node) → at v.nodes q ≡ Some node → (k : Node) × (at book_world.nodes q ≡ Some k) × (k.end ≡ node.end)
  ends q node there = ⊎_elim
      (λ (e : q ≡ n). (
        booked a.node a.book,
        ap (at book_world.nodes) e ∙ book_here v n a.book a.node a.there,
        ap (λ (y : Node). y.end) (same_Some a.node node (sym a.there ∙ (ap (at v.nodes) (sym e) ∙ there))),
      ))
      (λ (o : q ≡ n → ⊥). (node, book_other v n a.book a.node a.there q o ∙ there, refl))
      (same_or_not q n)

  pub amid_known : Known v g (goes_on all_rules j0 a.moves)
  amid_known = known_by runs drawn v book_world g (goes_on all_rules j0 a.moves) holds a.roles a.joined
      (book_births v n a.node a.there a.book) (book_born v n a.book a.node a.there) ends

module _ (runs : BirthsOfRuns) (drawn : BirthsAreDrawn) (answers : AnswersAreToQuestions) (closes : ChannelsClose)
    (requests : RequestsStay) (join : MovesJoin) (w : World) (h : History) (top : ℕ) (s : IsStanding w h top)
    (room : top + 131072 < 2 ^ 64) (n : ℕ) (old : Node) (was : at w.nodes n ≡ Some old) (up : old.up ≡ true) (sender : Option Sender)
    (moment : ℕ) (ev : Event) where
  amid : (made : List Move) (v : World) (g : History) → Leads n sender moment ev w h made v g → Holds v g → Amid ev n top s.machine v g
  amid made v g leads holds = amid_along answers closes requests w h top s room n old was up sender moment ev join made v g leads holds

  pub births_along : (made : List Move) (v : World) (g : History) → Leads n sender moment ev w h made v g → Holds v g → BirthsHold w
      → BirthsHold v
  births_along made v g NoMove holds b = b
  births_along made v g (OneMore before u f node y x d start leads is) holds b =
      let first = amid before u f leads is.holds in
      let last = amid made v g (OneMore before u f node y x d start leads is) holds in
      let left = left_there u n node is.there y x in
      let end : last.node.end ≡ x = ap (λ (z : Node). z.end) (same_Some last.node left.node (sym last.there ∙ left.there)) ∙ left.end in
      let few = first.born in
      let ids_drawn = first.fit.session_ids.drawn in
      let ids_within = first.fit.session_ids.within in
      move_keeps u f n node sender moment ev x d (goes_on all_rules s.machine first.moves) (goes_on all_rules s.machine last.moves)
      (amid_known runs drawn ev n top s.machine u f first is.holds) (births_along before u f leads is.holds b)
      (omega (arith, few, ids_drawn, ids_within, room)) (subst AreSound end last.sound) y is
      (amid_known runs drawn ev n top s.machine v g last holds) last.node last.there end

-- ---- other lines

-- the same nodes
same_births : (w v : World) → v.nodes ≡ w.nodes → BirthsHold w → BirthsHold v
unfolding birth_of
same_births w v same = births_stay w v (λ n s. ap (λ l. birth_in (at l n) s) same) (roles_older w v (same_keeps w v same))

-- a node in the place of one that has the same births, and the same role
put_births : (w : World) (n : ℕ) (old new : Node) → at w.nodes n ≡ Some old → new.births ≡ old.births → old.end.role ≡ new.end.role
    → BirthsHold w → BirthsHold (with_node w n new)
put_births w n old new was births role =
    births_stay w (with_node w n new) (put_born w n old new was births).births
    (roles_older w (with_node w n new) (put_keeps w n old new was role))

-- a node that is declared has none
module _ (w : World) (n : ℕ) (new : Node) (none : at w.nodes n ≡ None) (unborn : new.births ≡ []) where
  no_birth : (s : ℕ) → birth_in (Some new) s ≡ 0
  no_birth s = ap (λ l. unwrap_or (at l s) 0) unborn ∙ ap (λ (o : Option ℕ). unwrap_or o 0) (at-none s)

  declared_births : (q s : ℕ) → birth_of (with_node w n new) q s ≡ birth_of w q s
  unfolding birth_of
  declared_births q s = ⊎_elim
      (λ (e : q ≡ n).
      ap (λ y. birth_in (at (with_node w n new).nodes y) s) e
      ∙ (ap (λ o. birth_in o s) (at_new w.nodes n new)
      ∙ (no_birth s ∙ sym (ap (λ y. birth_in (at w.nodes y) s) e ∙ ap (λ o. birth_in o s) none))))
      (λ (o : q ≡ n → ⊥). ap (λ p. birth_in p s) (at_other w.nodes n new q o))
      (same_or_not q n)

  declared_older : AreOlder w (with_node w n new)
  unfolding birth_of
  declared_older q s node there some = ⊎_elim
      (λ (e : q ≡ n).
      let is : birth_in (at (with_node w n new).nodes q) s ≡ 0 =
      ap (λ y. birth_in (at (with_node w n new).nodes y) s) e ∙ (ap (λ o. birth_in o s) (at_new w.nodes n new) ∙ no_birth s) in
      absurd (omega (arith, some, is)))
      (λ (o : q ≡ n → ⊥). (node, sym (at_other w.nodes n new q o) ∙ there, refl))
      (same_or_not q n)

  added_births : BirthsHold w → BirthsHold (with_node w n new)
  added_births = births_stay w (with_node w n new) declared_births declared_older

module _ (w : World) (number : ℕ) (x : Lined) (b : BirthsHold w) where
  fell_births : (k : OfNode w)
      → BirthsHold (with_node w k.node (fallen (block_of k.node number) k.old.end k.old k.old.checkpoint))
  unfolding fallen
  fell_births k = put_births w k.node k.old (fallen (block_of k.node number) k.old.end k.old k.old.checkpoint) k.was refl refl b

  -- a step, or a start, that is cut off
  cut_births : (k : CutStep w number x) → BirthsHold x.world
  unfolding cut_line fallen
  cut_births k =
      let new = fallen (block_of k.node number) k.found.end k.found k.checkpoint in
      let was = ap (λ l. at l k.node) k.same.nodes ∙ k.was in
      let in_base = same_births w k.base k.same.nodes b in
      let v = with_node k.base k.node new in
      same_births v x.world (ap (λ (y : World). y.nodes) k.world)
      (put_births k.base k.node k.old new was k.finds.births (ap (λ (e : End). e.role) (sym k.finds.end)) in_base)

-- the laws that are used
pub record LineLaws : Type 0 where
  pub runs : BirthsOfRuns
  pub drawn : BirthsAreDrawn
  pub once : AnswersOfRuns
  pub answers : AnswersAreToQuestions
  pub closes : ChannelsClose
  pub requests : RequestsStay
  pub steps : WholeStepsKeep
  pub join : MovesJoin
  pub starting : StartsAreBooked
  pub of_books : StartsAreOfBooks
  pub starts : StartsKeep

module _ (laws : LineLaws) (w : World) (h : History) (number : ℕ) (x : Lined) (top most : ℕ) (s : IsStanding w h top)
    (room : top + 131072 < 2 ^ 64) (below : Below h most) (few : most + 147460 < 2 ^ 64)
    (next : IsStanding x.world (history_from x.done h) (top + 65536)) (b : BirthsHold w) where
  stepped_births : WholeStep w number x → BirthsHold x.world
  stepped_births k =
      let q = stepped.kept laws.once laws.answers laws.closes laws.requests laws.steps laws.join w h number x k top most s room below few
      next.nodes next.sound in
      let behind = births_along laws.runs laws.drawn laws.answers laws.closes laws.requests laws.join w h top s room k.node k.old k.was k.up
      k.sender k.found.clock (uncovered_event k.found.end.config.secret k.event)
      (stepped_in w number x k).moves q.behind (history_from x.done h) q.leads q.holds_behind b in
      births_stay q.behind x.world
      (stepped.born laws.once laws.answers laws.closes laws.requests laws.steps laws.join w h number x k top most s room below few
      next.nodes next.sound).births
      (roles_older q.behind x.world
      (stepped.keeps_roles laws.once laws.answers laws.closes laws.requests laws.steps laws.join w h number x k top most s room below few
      next.nodes next.sound))
      behind

  started_births : WholeStart w number x → BirthsHold x.world
  started_births k =
      births_stay w x.world
      (started.started_births laws.starting laws.of_books laws.starts w h number x k top most s below few next.nodes next.sound)
      (roles_older w x.world
      (started.started_keeps laws.starting laws.of_books laws.starts w h number x k top most s below few next.nodes next.sound))
      b

  pub line_births : LineDoes w number x → BirthsHold x.world
  line_births (Nothing same hands none) = same_births w x.world same.nodes b
  line_births (ANode n role lns secret hide lt to fresh world done none) =
      subst BirthsHold (sym world) (added_births w n (new_node number n role lns secret hide) fresh refl b)
  line_births (Arms k stop world done none) =
      subst BirthsHold (sym world)
      (put_births w k.node k.old (record k.old { checkpoint = with_stop (Some stop) k.old.checkpoint }) k.was refl refl b)
  line_births (Falls k world done none) =
      same_births (with_node w k.node (fallen (block_of k.node number) k.old.end k.old k.old.checkpoint)) x.world
      (ap (λ (y : World). y.nodes) world) (fell_births w number x b k)
  line_births (Steps k) = stepped_births k
  line_births (Cuts k) = cut_births w number x b k
  line_births (Starts k) = started_births k

first_births : BirthsHold empty_world
unfolding birth_of
first_births = record {
  ids = λ n s some. (let none = ap (λ o. birth_in o s) (at-none n) in absurd (omega (arith, some, none)));
  once = λ r birth n s m o one two. absurd (none-some one.node (sym (at-none n) ∙ one.is));
}

pub births_carried : LineLaws → IsCarried (λ w h. BirthsHold w)
births_carried laws = record {
  first = first_births;
  lines = λ w h number x top most s room below few does next b. line_births laws w h number x top most s room below few next b does;
}
