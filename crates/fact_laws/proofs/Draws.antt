-- So after each run the mark of each established tunnel covers each draw number that a deed of the run heeded.
use Rattle.std.proofs.Common.{◌≡◌, inl, inr, ℕ, ◌+◌, ◌≤◌, Bool, true, false, List, [], ◌∷◌, ◌++◌, map, refl, sym, ap, ◌∙◌, subst, Option}
use Rattle.std.proofs.Common.{Some, None}
use Rattle.std.proofs.lemmas.Bool.{true≢false, eqb-true}
use Rattle.std.proofs.lemmas.Option.{none-some}
use Rattle.std.specs.Prelude.{Ok, ◌==◌, ◌&&◌, if◌then◌else◌}
use Rattle.std.specs.List.{AllByRecursion}
use Rattle.id_table.specs.Ids.{at, at-none}
use Rattle.schedule_text.specs.declared.line.Line.{Line}
use Rattle.schedule_text.specs.Grammar.{AreLines, FitsLine}
use Rattle.end_model.specs.declared.moves.Froze.{Froze}
use Rattle.end_model.specs.declared.moves.Move.{Move}
use Rattle.end_model.specs.declared.moves.Move.TheVariants as move
use Rattle.end_model.specs.End.{End, Stepped, step}
use Rattle.end_model.specs.Starting.{starts}
use Rattle.world_model.specs.World.{World, Node, Sender, Deed, Lined, hand_deed, deed_of, given, after_step, moved_all, with_node}
use Rattle.world_model.specs.World.{block_of, opened}
use Rattle.world_model.specs.World.{line}
use Rattle.world_model.specs.Run.{Run, empty_run, after_line, run_from, run}
use Rattle.step_laws.specs.Looks.{LooksStayTrue, LooksBeginTrue}
use Rattle.step_laws.specs.Starts.{IsOfStart, StartsAreOfBooks}
use Rattle.session_book.specs.Books.{Kept}
use Rattle.book_laws.specs.Books.{StepsAreBooked, NewEndsAreBooked}
use Rattle.node_laws.specs.Nodes.{HoldsNode, StaysSo}
use Rattle.node_laws.proofs.Nodes.{WorldHolds, line_holds}
use Rattle.node_laws.proofs.Runs.{where_it_fits}
use Rattle.channel_laws.specs.Accounts.{History, no_history, answers_by, after, history_from}
use Rattle.channel_laws.specs.Lines.{AreHands, WholeStep, WholeStart, LineDoes, Nothing, ANode, Arms, Falls, Steps, Cuts, Starts, LinesDo}
use Rattle.recovery_laws.proofs.Nodes.{node_goes, NoneIsArmed, line_unarmed}
use Rattle.fact_laws.specs.Draws.{Heeds, AnswersNoOlder, AllLater, IsNoOlder, NoneIsOlder, IsCovered, DeedsAreCovered, AnswersAreCovered}
use Rattle.fact_laws.proofs.Covered.{Laws, IsHeeded, in_mark, goes_heeded, by_end, event_of, plain_of, plain_end}
use Rattle.fact_laws.proofs.Marked.{IsMarked, heeded_on, no_older_on, later_on}
use Rattle.fact_laws.proofs.There.{still_there, stepped_node}

-- ---- deeds

-- the node of a deed is there, and covers what the deed heeded
abbrev DeedOk : World → Deed → Type 0
DeedOk w d = (i draw : ℕ) → Heeds d.move i draw → (node : Node) × (at w.nodes d.node ≡ Some node) × IsHeeded i draw node

pub all_deeds : (P Q : Deed → Type 0) (ds : List Deed) → ((d : Deed) → P d → Q d) → AllByRecursion P ds → AllByRecursion Q ds
all_deeds P Q [] on all = tt
all_deeds P Q (d ∷ ds) on all = (on d all.0, all_deeds P Q ds on all.1)

pub both_deeds : (P : Deed → Type 0) (ds es : List Deed) → AllByRecursion P ds → AllByRecursion P es → AllByRecursion P (ds ++ es)
both_deeds P [] es one two = two
both_deeds P (d ∷ ds) es one two = (one.0, both_deeds P ds es one.1 two)

pub all_moves : (P : Move → Type 0) (Q : Deed → Type 0) (f : Move → Deed) (ms : List Move) → ((m : Move) → P m → Q (f m))
    → AllByRecursion P ms
    → AllByRecursion Q (map f ms)
all_moves P Q f [] on all = tt
all_moves P Q f (m ∷ ms) on all = (on m all.0, all_moves P Q f ms on all.1)

-- no frame that is handed up heeds a number
hands_heed_none : (w : World) (number : ℕ) (ds : List Deed) → AreHands number ds → AllByRecursion (DeedOk w) ds
hands_heed_none w number ds (inl none) = subst (AllByRecursion (DeedOk w)) (sym none) tt
hands_heed_none w number ds (inr (n, r, f, is)) = subst (AllByRecursion (DeedOk w)) (sym is) (λ i draw heeds. absurd heeds, tt)

-- nor does a move of a start
start_heeds_none : (k : Kept) (m : Move) → IsOfStart k m → (i draw : ℕ) → Heeds m i draw → ⊥
start_heeds_none k (move.Froze f) of i draw heeds = absurd of
start_heeds_none k (move.ResetAttempting r) of i draw heeds = absurd of
start_heeds_none k m of i draw heeds = absurd heeds

-- and it answers no attempt
start_answers_none : (k : Kept) (m : Move) → IsOfStart k m → (i draw : ℕ) → AnswersNoOlder i draw m
start_answers_none k (move.Froze f) of i draw = absurd of
start_answers_none k m of i draw = tt

-- ---- deeds in order

pub each_deed : (P : Deed → Type 0) (ds : List Deed) → ((d : Deed) → P d) → AllByRecursion P ds
each_deed P [] is = tt
each_deed P (d ∷ ds) is = (is d, each_deed P ds is)

pub later_both : (R : Deed → Deed → Type 0) (ds es : List Deed) → AllLater R ds → AllLater R es
    → AllByRecursion (λ (d : Deed). AllByRecursion (R d) es) ds → AllLater R (ds ++ es)
later_both R [] es one two both = two
later_both R (d ∷ ds) es one two both = (both_deeds (R d) ds es one.0 both.0, later_both R ds es one.1 two both.1)

-- what a later move answers isn't older than what an earlier one heeds
abbrev NoOlderMove : Move → Move → Type 0
NoOlderMove a b = (i draw : ℕ) → Heeds a i draw → AnswersNoOlder i draw b

pairs_of : (f : Move → Deed) → ((a b : Move) → NoOlderMove a b → IsNoOlder (f a) (f b)) → (ms : List Move) → AllLater NoOlderMove ms
    → AllLater IsNoOlder (map f ms)
pairs_of f on [] later = tt
pairs_of f on (m ∷ ms) later = (all_moves (NoOlderMove m) (IsNoOlder (f m)) f ms (on m) later.0, pairs_of f on ms later.1)

each_of : (P : Move → Type 0) (ms : List Move) → ((m : Move) → P m) → AllByRecursion P ms
each_of P [] is = tt
each_of P (m ∷ ms) is = (is m, each_of P ms is)

start_moves_later : (k : Kept) (ms : List Move) → AllByRecursion (IsOfStart k) ms → AllLater NoOlderMove ms
start_moves_later k [] of = tt
start_moves_later k (m ∷ ms) of =
    (each_of (NoOlderMove m) ms (λ b i draw heeds. absurd (start_heeds_none k m of.0 i draw heeds)), start_moves_later k ms of.1)

-- ---- a line

module _ (laws : Laws) (of_books : StartsAreOfBooks) (w : World) (number : ℕ) (x : Lined)
    (nodes : (n : ℕ) (node : Node) → at w.nodes n ≡ Some node → HoldsNode node)
    (behind : (n : ℕ) (node : Node) → at x.world.nodes n ≡ Some node → HoldsNode node)
    (unarmed : NoneIsArmed w) (does : LineDoes w number x) where
  -- a deed before the line is covered behind it
  old_deed : (d : Deed) → DeedOk w d → DeedOk x.world d
  old_deed d ok i draw heeds =
      let was = ok i draw heeds in
      let new = still_there w number x d.node was.0 was.1 does in (
        new.0,
        new.1,
        goes_heeded laws w number x nodes unarmed i draw d.node was.0 new.0 was.1 (behind d.node new.0 new.1)
            (node_goes w number x does d.node new.0 new.1) was.2,
      )

  -- what a step did
  each_move : (i draw : ℕ) (new : Node) (k : WholeStep w number x) → at x.world.nodes k.node ≡ Some new
      → IsMarked (plain_of w number x k).end i draw → IsHeeded i draw new
  each_move i draw new k there marked =
      let so = stepped_node w number x k new there in
      let is : new.end ≡ (plain_of w number x k).end = so.0 ∙ ap (λ (z : Stepped). z.end) (plain_end w number x k) in
      by_end i draw new (behind k.node new there) so.1 (subst (λ (e : End). IsMarked e i draw) (sym is) marked)

  abbrev IsHeededBy : WholeStep w number x → Move → Type 0
  IsHeededBy k m = (i draw : ℕ) → Heeds m i draw → IsMarked (plain_of w number x k).end i draw

  step_moves : (k : WholeStep w number x) → AllByRecursion (IsHeededBy k) (plain_of w number x k).moves
  step_moves k =
      let u = (nodes k.node k.old k.was).up k.up in
      let ev = event_of w number x k in
      let s = plain_of w number x k in
      heeded_on laws.moves k.found.clock ev k.old.end s.moves s.end k.old.checkpoint.book
      (laws.no_starts k.old.end k.found.clock (block_of k.node number) ev)
      (laws.chains k.old.end u.kept k.found.clock (block_of k.node number) ev).chain
      u.fit.tables u.book.mirrors

  -- of which each deed is a move of its node
  step_each : (Q : Deed → Type 0) (base : World) (n : ℕ) (node : Node) (sender : Option Sender) (s : Stepped) (P : Move → Type 0)
      → ((m : Move) → P m → (d : Deed) → d.node ≡ n → d.move ≡ m → Q d) → AllByRecursion P s.moves
      → AllByRecursion Q (after_step base number n node sender s).done
  unfolding after_step given
  step_each Q base n node sender s P on all =
      let v = moved_all n s.moves (with_node base n (record node { end = s.end })) in
      let f : Move → Deed = λ m. deed_of v number n node.end.role sender m in
      all_moves P Q f s.moves (λ m is. on m is (f m) refl refl) all

  step_pairs : (base : World) (n : ℕ) (node : Node) (sender : Option Sender) (s : Stepped) → AllLater NoOlderMove s.moves
      → AllLater IsNoOlder (after_step base number n node sender s).done
  unfolding after_step given
  step_pairs base n node sender s later =
      let v = moved_all n s.moves (with_node base n (record node { end = s.end })) in
      pairs_of (λ m. deed_of v number n node.end.role sender m) (λ a b on i draw heeds own. on i draw heeds) s.moves later

  -- the moves of a start
  abbrev started_of : WholeStart w number x → Stepped
  started_of k = starts k.old.end.role k.old.end.config k.old.checkpoint.book k.old.clock (block_of k.node number)

  of_start : (k : WholeStart w number x) → AllByRecursion (IsOfStart k.old.checkpoint.book) (started_of k).moves
  of_start k =
      of_books k.old.end.role k.old.end.config k.old.checkpoint.book (nodes k.node k.old k.was).sound k.old.clock (block_of k.node number)

  step_done : (k : WholeStep w number x) → AllByRecursion (DeedOk x.world) x.done
  step_done k =
      let new = still_there w number x k.node k.old k.was does in
      let s = step k.found.end k.found.clock (block_of k.node number) k.event in
      let moves = subst (λ (z : Stepped). AllByRecursion (IsHeededBy k) z.moves) (sym (plain_end w number x k)) (step_moves k) in
      let deeds = step_each (DeedOk x.world) k.base k.node (record k.found { checkpoint = k.checkpoint }) k.sender s (IsHeededBy k)
      (λ m all d own is i draw heeds. (
        new.0,
        subst (λ n. at x.world.nodes n ≡ Some new.0) (sym own) new.1,
        each_move i draw new.0 k new.1 (all i draw (subst (λ y. Heeds y i draw) is heeds)),
      ))
      moves in
      subst (AllByRecursion (DeedOk x.world)) (sym k.done)
      (both_deeds (DeedOk x.world) k.hands _ (hands_heed_none x.world number k.hands k.are_hands) deeds)

  start_done : (k : WholeStart w number x) → AllByRecursion (DeedOk x.world) x.done
  start_done k =
      let b = k.old.checkpoint.book in
      let node = record (opened (block_of k.node number) k.old) { checkpoint = k.checkpoint } in
      let deeds = step_each (DeedOk x.world) w k.node node None (started_of k) (IsOfStart b)
      (λ m so d own is i draw heeds. absurd (start_heeds_none b m so i draw (subst (λ y. Heeds y i draw) is heeds))) (of_start k) in
      subst (λ (l : Lined). AllByRecursion (DeedOk x.world) l.done) (sym k.is) deeds

  none_done : x.done ≡ [] → AllByRecursion (DeedOk x.world) x.done
  none_done none = subst (AllByRecursion (DeedOk x.world)) (sym none) tt

  line_done : LineDoes w number x → AllByRecursion (DeedOk x.world) x.done
  line_done (Nothing same hands none) = hands_heed_none x.world number x.done hands
  line_done (ANode n role lns secret hide lt to fresh world done none) = none_done done
  line_done (Arms k stop world done none) = none_done done
  line_done (Falls k world done none) = none_done done
  line_done (Steps k) = step_done k
  line_done (Cuts k) = none_done k.done
  line_done (Starts k) = start_done k

  -- ---- in order

  -- no deed of a list answers anything, so none answers what is older
  abbrev AnswersNone : Deed → Type 0
  AnswersNone e = (i draw : ℕ) → AnswersNoOlder i draw e.move

  none_older : (d : Deed) (es : List Deed) → AllByRecursion AnswersNone es → AllByRecursion (IsNoOlder d) es
  none_older d es all = all_deeds AnswersNone (IsNoOlder d) es (λ e none i draw heeds own. none i draw) all

  hands_answer_none : (ds : List Deed) → AreHands number ds → AllByRecursion AnswersNone ds
  hands_answer_none ds (inl none) = subst (AllByRecursion AnswersNone) (sym none) tt
  hands_answer_none ds (inr (n, r, f, is)) = subst (AllByRecursion AnswersNone) (sym is) (λ i draw. tt, tt)

  -- a deed before the line, and those of the line
  step_older : (k : WholeStep w number x) (d : Deed) → DeedOk w d → AllByRecursion (IsNoOlder d) x.done
  step_older k d ok =
      let u = (nodes k.node k.old k.was).up k.up in
      let ev = event_of w number x k in
      let s = plain_of w number x k in
      let chain = (laws.chains k.old.end u.kept k.found.clock (block_of k.node number) ev).chain in
      let all = no_older_on k.found.clock ev k.old.end s.moves s.end
      (laws.no_starts k.old.end k.found.clock (block_of k.node number) ev) chain in
      let P : Move → Type 0 = λ m. (i draw : ℕ) → IsMarked k.old.end i draw → AnswersNoOlder i draw m in
      let moves = subst (λ (z : Stepped). AllByRecursion P z.moves) (sym (plain_end w number x k)) all in
      let deeds = step_each (IsNoOlder d) k.base k.node (record k.found { checkpoint = k.checkpoint }) k.sender
      (step k.found.end k.found.clock (block_of k.node number) k.event) P
      (λ m on e own is i draw heeds same.
      let had = ok i draw heeds in
      let n_is : d.node ≡ k.node = sym same ∙ own in
      let both : Some had.0 ≡ Some k.old = sym had.1 ∙ (ap (λ n. at w.nodes n) n_is ∙ k.was) in
      let old_is : had.0 ≡ k.old = cc in
      let marked = subst (λ (q : Node). IsMarked q.end i draw) old_is had.2.marked in
      subst (AnswersNoOlder i draw) (sym is) (on i draw marked))
      moves in
      subst (AllByRecursion (IsNoOlder d)) (sym k.done)
      (both_deeds (IsNoOlder d) k.hands _ (none_older d k.hands (hands_answer_none k.hands k.are_hands)) deeds)

  start_older : (k : WholeStart w number x) (d : Deed) → AllByRecursion (IsNoOlder d) x.done
  start_older k d =
      let deeds = step_each (IsNoOlder d) w k.node (record (opened (block_of k.node number) k.old) { checkpoint = k.checkpoint }) None
      (started_of k) (IsOfStart k.old.checkpoint.book)
      (λ m so e own is i draw heeds same. subst (AnswersNoOlder i draw) (sym is) (start_answers_none k.old.checkpoint.book m so i draw))
      (of_start k) in
      subst (λ (l : Lined). AllByRecursion (IsNoOlder d) l.done) (sym k.is) deeds

  nothing_older : (d : Deed) → x.done ≡ [] → AllByRecursion (IsNoOlder d) x.done
  nothing_older d none = subst (AllByRecursion (IsNoOlder d)) (sym none) tt

  line_older : (d : Deed) → LineDoes w number x → DeedOk w d → AllByRecursion (IsNoOlder d) x.done
  line_older d (Nothing same hands none) ok = none_older d x.done (hands_answer_none x.done hands)
  line_older d (ANode n role lns secret hide lt to fresh world done none) ok = nothing_older d done
  line_older d (Arms k stop world done none) ok = nothing_older d done
  line_older d (Falls k world done none) ok = nothing_older d done
  line_older d (Steps k) ok = step_older k d ok
  line_older d (Cuts k) ok = nothing_older d k.done
  line_older d (Starts k) ok = start_older k d

  -- and those of the line among themselves
  hands_later : (ds es : List Deed) → AreHands number ds → AllLater IsNoOlder es → AllLater IsNoOlder (ds ++ es)
  hands_later ds es (inl none) later = subst (λ q. AllLater IsNoOlder (q ++ es)) (sym none) later
  hands_later ds es (inr (n, r, f, is)) later =
      subst (λ q. AllLater IsNoOlder (q ++ es)) (sym is)
      (each_deed (IsNoOlder (hand_deed number n r f)) es (λ e i draw heeds. absurd heeds), later)

  step_later : (k : WholeStep w number x) → AllLater IsNoOlder x.done
  step_later k =
      let u = (nodes k.node k.old k.was).up k.up in
      let ev = event_of w number x k in
      let s = plain_of w number x k in
      let all = later_on laws.moves k.found.clock ev k.old.end s.moves s.end k.old.checkpoint.book
      (laws.no_starts k.old.end k.found.clock (block_of k.node number) ev)
      (laws.chains k.old.end u.kept k.found.clock (block_of k.node number) ev).chain
      u.fit.tables u.book.mirrors in
      let moves = subst (λ (z : Stepped). AllLater NoOlderMove z.moves) (sym (plain_end w number x k)) all in
      let deeds = step_pairs k.base k.node (record k.found { checkpoint = k.checkpoint }) k.sender
      (step k.found.end k.found.clock (block_of k.node number) k.event) moves in
      subst (AllLater IsNoOlder) (sym k.done) (hands_later k.hands _ k.are_hands deeds)

  start_later : (k : WholeStart w number x) → AllLater IsNoOlder x.done
  start_later k =
      let moves = start_moves_later k.old.checkpoint.book (started_of k).moves (of_start k) in
      let node = record (opened (block_of k.node number) k.old) { checkpoint = k.checkpoint } in
      let deeds = step_pairs w k.node node None (started_of k) moves in
      subst (λ (l : Lined). AllLater IsNoOlder l.done) (sym k.is) deeds

  nothing_later : x.done ≡ [] → AllLater IsNoOlder x.done
  nothing_later none = subst (AllLater IsNoOlder) (sym none) tt

  hands_alone : (ds : List Deed) → AreHands number ds → AllLater IsNoOlder ds
  hands_alone ds (inl none) = subst (AllLater IsNoOlder) (sym none) tt
  hands_alone ds (inr (n, r, f, is)) = subst (AllLater IsNoOlder) (sym is) (tt, tt)

  line_later : LineDoes w number x → AllLater IsNoOlder x.done
  line_later (Nothing same hands none) = hands_alone x.done hands
  line_later (ANode n role lns secret hide lt to fresh world done none) = nothing_later done
  line_later (Arms k stop world done none) = nothing_later done
  line_later (Falls k world done none) = nothing_later done
  line_later (Steps k) = step_later k
  line_later (Cuts k) = nothing_later k.done
  line_later (Starts k) = start_later k

  pub all_later : (ds : List Deed) → AllByRecursion (DeedOk w) ds → AllLater IsNoOlder ds → AllLater IsNoOlder (ds ++ x.done)
  all_later ds ok later =
      later_both IsNoOlder ds x.done later (line_later does)
      (all_deeds (DeedOk w) (λ d. AllByRecursion (IsNoOlder d) x.done) ds (λ d had. line_older d does had) ok)

  -- all that was done so far
  pub all_done : (ds : List Deed) → AllByRecursion (DeedOk w) ds → AllByRecursion (DeedOk x.world) (ds ++ x.done)
  all_done ds ok = both_deeds (DeedOk x.world) ds x.done (all_deeds (DeedOk w) (DeedOk x.world) ds old_deed ok) (line_done does)

-- ---- runs

-- the laws that are used of runs
pub record RunLaws : Type 0 where
  pub line_laws : Laws
  pub of_books : StartsAreOfBooks
  pub looks : LooksStayTrue
  pub begin : LooksBeginTrue
  pub booked : StepsAreBooked
  pub new : NewEndsAreBooked
  pub lines : LinesDo

nothing_more : StaysSo (λ e. Unit {0})
nothing_more = record {
  new = λ r c. tt;
  bare = λ r c k sound. tt;
  starts_so = λ r c k sound suits moment block. tt;
  stays = λ e kept seen fit has moment block ev. tt;
}

module _ (laws : RunLaws) where
  record RunOk (r : Run) : Type 0 where
    nodes : WorldHolds (λ e. Unit {0}) nothing_more r.world
    unarmed : NoneIsArmed r.world
    done : AllByRecursion (DeedOk r.world) r.done
    later : AllLater IsNoOlder r.done

  next : (number : ℕ) (r : Run) (l : Line) → FitsLine l → (x : Lined) → line r.world number l ≡ Ok x → RunOk r → RunOk (after_line r x)
  next number r l fits x is ok =
      let own = laws.line_laws in
      let holds = line_holds (λ e. Unit {0}) nothing_more own.chains laws.looks laws.begin laws.booked own.started laws.new in
      let behind = holds r.world number ok.nodes x l is in
      let before : (n : ℕ) (node : Node) → at r.world.nodes n ≡ Some node → HoldsNode node = λ n node there. (ok.nodes n node there).0 in
      let after : (n : ℕ) (node : Node) → at x.world.nodes n ≡ Some node → HoldsNode node = λ n node there. (behind n node there).0 in
      let does = laws.lines r.world number l x fits is in
      record {
        nodes = behind;
        unarmed = line_unarmed laws.lines r.world number l x fits is ok.unarmed;
        done = all_done own laws.of_books r.world number x before after ok.unarmed does r.done ok.done;
        later = all_later own laws.of_books r.world number x before after ok.unarmed does r.done ok.done ok.later;
      }

  all_lines : (number : ℕ) (ls : List Line) (r : Run) → AreLines ls → RunOk r → RunOk (run_from number ls r)
  unfolding run_from
  all_lines number [] r fits ok = ok
  all_lines number (l ∷ ls) r fits ok =
      where_it_fits RunOk _ r number (line r.world number l)
      (λ fault. record { nodes = ok.nodes; unarmed = ok.unarmed; done = ok.done; later = ok.later })
      (λ x is. all_lines (number + 1) ls (after_line r x) fits.1 (next number r l fits.0 x is ok))

  none_there : (n : ℕ) (node : Node) → at empty_run.world.nodes n ≡ Some node → ⊥
  none_there n node there = none-some node (sym (at-none n) ∙ there)

  runs_ok : (lines : List Line) → AreLines lines → RunOk (run lines)
  runs_ok lines fits =
      all_lines 1 lines empty_run fits (record {
        nodes = λ n node there. absurd (none_there n node there);
        unarmed = λ n node there down. absurd (none_there n node there);
        done = tt;
        later = tt;
      })

  same_node : (w : World) (n : ℕ) (a b : Node) → at w.nodes n ≡ Some a → at w.nodes n ≡ Some b → a ≡ b
  same_node w n a b one two = let both : Some a ≡ Some b = sym one ∙ two in cc

  covered : (w : World) (d : Deed) → DeedOk w d → IsCovered w d
  covered w d ok i draw mark node there heeds has =
      let h = ok i draw heeds in
      in_mark i draw mark node (subst (IsHeeded i draw) (same_node w d.node h.0 node h.1 there) h.2) has

  pub deeds_are_covered : DeedsAreCovered
  deeds_are_covered lines fits =
      let w = (run lines).world in
      all_deeds (DeedOk w) (IsCovered w) (run lines).done (covered w)
      (runs_ok lines fits).done

  pub none_is_older : NoneIsOlder
  none_is_older lines fits = (runs_ok lines fits).later

-- ---- answers

and_left : (a b : Bool) → a && b ≡ true → a ≡ true
and_left true b h = refl
and_left false b h = absurd (true≢false (sym h))

-- an answer that the history has was given by a deed of its node
module _ (P : Deed → Type 0) (n c : ℕ) (f : Froze) (Q : Type 0)
    (on : (d : Deed) → P d → d.node ≡ n → d.move ≡ move.Froze f → Q) where
  by_deed : (d : Deed) (m : Move) → d.move ≡ m → P d → (before : Option Froze) → (before ≡ Some f → Q)
      → answers_by d m n c before ≡ Some f → Q
  by_deed d (move.Froze m) is ok before old h = by ((d.node == n) && (m.answer == c)) refl h
    where
      by : (b : Bool) → ((d.node == n) && (m.answer == c)) ≡ b → (if b then Some m else before) ≡ Some f → Q
      by false other h = old h
      by true own h =
          let same : m ≡ f = cc in
          on d ok (eqb-true d.node n (and_left (d.node == n) (m.answer == c) own)) (is ∙ ap (λ q. move.Froze q) same)
  by_deed d m is ok before old h = old h

  by_deeds : (ds : List Deed) (h : History) → AllByRecursion P ds → (h.answers n c ≡ Some f → Q)
      → (history_from ds h).answers n c ≡ Some f → Q
  unfolding history_from
  by_deeds [] h all old is = old is
  by_deeds (d ∷ ds) h all old is =
      by_deeds ds (after h d) all.1 (λ here. by_deed d d.move refl all.0 (h.answers n c) old here) is

pub answers_are_covered : DeedsAreCovered → AnswersAreCovered
answers_are_covered deeds lines fits n c mark f node is there has =
    let w = (run lines).world in
    by_deeds (IsCovered w) n c f (f.asked ≤ mark)
    (λ d covers own move_is.
    covers f.tunnel f.asked mark node (subst (λ m. at w.nodes m ≡ Some node) (sym own) there)
    (subst (λ m. Heeds m f.tunnel f.asked) (sym move_is) (refl, refl)) has)
    (run lines).done no_history (deeds lines fits) (λ none. absurd (none-some f none)) is
