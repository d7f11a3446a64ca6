-- What the deeds of a line draw is new, whichever line it is, and no number is drawn twice in a run.
use Rattle.std.proofs.Common.{◌≡◌, inl, inr, ℕ, ◌+◌, ◌≤◌, ◌<◌, Bool, true, false, List, [], ◌∷◌, ◌++◌, map, refl, sym}
use Rattle.std.proofs.Common.{ap, ◌∙◌, subst, Option, Some, None, arith}
use Rattle.std.proofs.lemmas.Bool.{cases_Bool, ltb-true}
use Rattle.std.proofs.lemmas.Option.{none-some}
use Rattle.std.specs.Prelude.{Ok, ◌==◌, ◌&&◌, take, nat_lt, if◌then◌else◌}
use Rattle.std.specs.List.{AllByRecursion}
use Rattle.id_table.specs.Ids.{at, at-none}
use Rattle.schedule_text.specs.declared.line.Line.{Line}
use Rattle.schedule_text.specs.Grammar.{AreLines, FitsLine}
use Rattle.session_book.specs.declared.record.Record.{Record}
use Rattle.session_book.specs.declared.record.Record.TheVariants.{Ceiling, TunnelUp, TunnelDown, CallUp, CallDown, Mark}
use Rattle.session_book.specs.Books.{Kept, ceiling, fits, stepped as with_record}
use Rattle.end_model.specs.declared.event.Event.TheVariants.{Tick}
use Rattle.end_model.specs.declared.moves.Move.{Move}
use Rattle.end_model.specs.Contents.{contents_of}
use Rattle.end_model.specs.End.{End, Stepped, step}
use Rattle.end_model.specs.Starting.{starts}
use Rattle.world_model.specs.World.{World, Node, Checkpoint, Sender, Deed, Lined, hand_deed, deed_of, given, after_step, moved_all}
use Rattle.world_model.specs.World.{with_node, block_of, opened, recorded, recorded_all, with_stop, line}
use Rattle.world_model.specs.Run.{Run, empty_run, after_line, run_from, run}
use Rattle.step_laws.specs.Moves.{Chain}
use Rattle.step_laws.specs.Looks.{LooksStayTrue, LooksBeginTrue}
use Rattle.step_laws.specs.Starts.{StartsAreChains}
use Rattle.step_laws.specs.Steps.{StepsAreChains}
use Rattle.book_laws.specs.Books.{StepsAreBooked, NewEndsAreBooked}
use Rattle.book_laws.specs.Starts.{StartsAreBooked}
use Rattle.node_laws.specs.Nodes.{HoldsNode, StaysSo}
use Rattle.node_laws.proofs.Nodes.{WorldHolds, line_holds}
use Rattle.node_laws.proofs.Runs.{where_it_fits}
use Rattle.channel_laws.specs.Lines.{AreHands, WholeStep, CutStep, WholeStart, OfNode, LineDoes, Nothing, ANode, Arms, Falls, Steps, Cuts}
use Rattle.channel_laws.specs.Lines.{Starts, LinesDo}
use Rattle.recovery_laws.proofs.Nodes.{IsCommitted, whole_has, cut_has, node_goes, Goes, AsItWas, IsNew, ByStep, ByCut, ByFall, ByStart}
use Rattle.fact_laws.specs.Draws.{AllLater}
use Rattle.fact_laws.specs.Ids.{Kind, Tunnels, Sessions, Recoveries, next_of, ceiling_of, Draws, GoesOn, IsDrawn, IsAbove, DrawsAnew}
use Rattle.fact_laws.specs.Ids.{IdsAreDrawnAnew, IdsRise}
use Rattle.fact_laws.proofs.Covered.{event_of, plain_of, plain_end}
use Rattle.fact_laws.proofs.Draws.{all_deeds, both_deeds, each_deed, all_moves, later_both}
use Rattle.fact_laws.proofs.Drawn.{DrawsWithin, IsAboveMove, numbers_go, all_within, all_rise}
use Rattle.fact_laws.proofs.There.{still_there, stepped_node, started_node}

-- ---- ceilings never fall

and_left : (a b : Bool) → a && b ≡ true → a ≡ true
and_left true b h = refl
and_left false b h = h

-- a book with another ceiling, of the space that it is
abbrev raised_by : Kept → ℕ → Bool → Bool → Bool → Kept
raised_by b number one two three =
    if one then record b { tunnel_ceiling = number }
    else if two then record b { session_ceiling = number }
    else if three then record b { draw_ceiling = number }
    else b

one_rises : (k : Kind) (b : Kept) (r : Record) → fits b r ≡ true → ceiling_of k b ≤ ceiling_of k (with_record b r)
one_rises k b (Ceiling space number) fit =
    by k (space == 1) (space == 2) (space == 3) (ltb-true (ceiling b space) number (and_left (nat_lt (ceiling b space) number) _ fit))
  where
    by : (k : Kind) (one two three : Bool)
        → (if one then b.tunnel_ceiling else if two then b.session_ceiling else if three then b.draw_ceiling else 0) < number
        → ceiling_of k b
        ≤ ceiling_of k (raised_by b number one two three)
    by Tunnels true two three lt = omega (arith, lt)
    by Tunnels false true three lt = omega arith
    by Tunnels false false true lt = omega arith
    by Tunnels false false false lt = omega arith
    by Sessions true two three lt = omega arith
    by Sessions false true three lt = omega (arith, lt)
    by Sessions false false true lt = omega arith
    by Sessions false false false lt = omega arith
    by Recoveries true two three lt = omega arith
    by Recoveries false true three lt = omega arith
    by Recoveries false false true lt = omega (arith, lt)
    by Recoveries false false false lt = omega arith
one_rises Tunnels b (TunnelUp t) fit = omega arith
one_rises Sessions b (TunnelUp t) fit = omega arith
one_rises Recoveries b (TunnelUp t) fit = omega arith
one_rises Tunnels b (TunnelDown id) fit = omega arith
one_rises Sessions b (TunnelDown id) fit = omega arith
one_rises Recoveries b (TunnelDown id) fit = omega arith
one_rises Tunnels b (CallUp c) fit = omega arith
one_rises Sessions b (CallUp c) fit = omega arith
one_rises Recoveries b (CallUp c) fit = omega arith
one_rises Tunnels b (CallDown id) fit = omega arith
one_rises Sessions b (CallDown id) fit = omega arith
one_rises Recoveries b (CallDown id) fit = omega arith
one_rises Tunnels b (Mark id mark) fit = omega arith
one_rises Sessions b (Mark id mark) fit = omega arith
one_rises Recoveries b (Mark id mark) fit = omega arith

record_rises : (k : Kind) (c : Checkpoint) (r : Record) → ceiling_of k c.book ≤ ceiling_of k (recorded c r).book
record_rises k c r = by (fits c.book r) refl
  where
    by : (b : Bool) → fits c.book r ≡ b
        → ceiling_of k c.book
        ≤ ceiling_of k (if b then record c { records = c.records + 1; book = with_record c.book r } else c).book
    by true fit = one_rises k c.book r fit
    by false fit = omega arith

records_rise : (k : Kind) (c : Checkpoint) (rs : List Record) → ceiling_of k c.book ≤ ceiling_of k (recorded_all c rs).book
unfolding recorded_all
records_rise k c [] = omega arith
records_rise k c (r ∷ rs) =
    let one = record_rises k c r in
    let more = records_rise k (recorded c r) rs in
    omega (arith, one, more)

-- in what is committed of a step, or of a start
committed_rise : (k : Kind) (c : Checkpoint) (rs : List Record) (d : Checkpoint) → IsCommitted c rs d
    → ceiling_of k c.book ≤ ceiling_of k d.book
committed_rise k c rs d has =
    subst (λ (b : Kept). ceiling_of k c.book ≤ ceiling_of k b) (sym has.book) (records_rise k c (take has.count rs))

-- ---- nodes

-- what a node drew is within its ceilings, and one that is down draws above them
down_next : (k : Kind) (node : Node) → HoldsNode node → node.up ≡ false → next_of k node.end ≡ ceiling_of k node.checkpoint.book + 1
down_next Tunnels node h down = ap (λ (e : End). e.tunnel_ids.next) (h.down down)
down_next Sessions node h down = ap (λ (e : End). e.session_ids.next) (h.down down)
down_next Recoveries node h down = ap (λ (e : End). e.recovery_ids.next) (h.down down)

up_next : (k : Kind) (node : Node) → HoldsNode node → node.up ≡ true → next_of k node.end ≤ ceiling_of k node.checkpoint.book + 1
up_next Tunnels node h up =
    let d = (h.up up).fit.tunnel_ids.drawn in let c = (h.up up).book.tunnel_ceiling in omega (arith, d, c)
up_next Sessions node h up =
    let d = (h.up up).fit.session_ids.drawn in let c = (h.up up).book.session_ceiling in omega (arith, d, c)
up_next Recoveries node h up =
    let d = (h.up up).fit.recovery_ids.drawn in let c = (h.up up).book.draw_ceiling in omega (arith, d, c)

any_next : (k : Kind) (node : Node) → HoldsNode node → next_of k node.end ≤ ceiling_of k node.checkpoint.book + 1
any_next k node h = elim (cases_Bool node.up) [
  | inl up ↦ up_next k node h up
  | inr down ↦ (let is = down_next k node h down in omega (arith, is))
]

-- one whose end and book are the same
on_alike : (old new : Node) → new.end ≡ old.end → new.checkpoint.book ≡ old.checkpoint.book → GoesOn old new
on_alike old new end book = record {
  numbers = λ k. subst (λ (e : End). next_of k old.end ≤ next_of k e) (sym end) (omega arith);
  ceilings = λ k. subst (λ (b : Kept). ceiling_of k old.checkpoint.book ≤ ceiling_of k b) (sym book) (omega arith);
}

-- one that fell
on_fallen : (old new : Node) → HoldsNode old → HoldsNode new → new.up ≡ false
    → ((k : Kind) → ceiling_of k old.checkpoint.book ≤ ceiling_of k new.checkpoint.book) → GoesOn old new
on_fallen old new was is down rise = record {
  numbers = λ k.
      (let before = any_next k old was in
      let behind = down_next k new is down in
      let up = rise k in
      omega (arith, before, behind, up));
  ceilings = rise;
}

-- one that made a step, or a start
on_moved : (old new : Node) (s : Stepped) (rs : List Record) (c : Checkpoint) → ((k : Kind) → next_of k old.end ≤ next_of k s.end)
    → new.end ≡ s.end → new.checkpoint ≡ c → IsCommitted old.checkpoint rs c → GoesOn old new
on_moved old new s rs c go end checkpoint has = record {
  numbers = λ k. subst (λ (e : End). next_of k old.end ≤ next_of k e) (sym end) (go k);
  ceilings = λ k.
      subst (λ (d : Checkpoint). ceiling_of k old.checkpoint.book ≤ ceiling_of k d.book) (sym checkpoint)
      (committed_rise k old.checkpoint rs c has);
}

-- ---- a line

module _ (chains : StepsAreChains) (starting : StartsAreChains) (w : World) (number : ℕ) (x : Lined)
    (nodes : (n : ℕ) (node : Node) → at w.nodes n ≡ Some node → HoldsNode node)
    (behind : (n : ℕ) (node : Node) → at x.world.nodes n ≡ Some node → HoldsNode node) where
  -- the moves of a step, and of a start
  step_chain : (k : WholeStep w number x)
      → Chain k.found.clock (event_of w number x k) k.old.end (plain_of w number x k).moves (plain_of w number x k).end
  step_chain k =
      (chains k.old.end ((nodes k.node k.old k.was).up k.up).kept k.found.clock (block_of k.node number) (event_of w number x k)).chain

  abbrev started_by : WholeStart w number x → Stepped
  started_by k = starts k.old.end.role k.old.end.config k.old.checkpoint.book k.old.clock (block_of k.node number)

  start_chain : (k : WholeStart w number x) → Chain k.old.clock Tick k.old.end (started_by k).moves (started_by k).end
  start_chain k =
      let h = nodes k.node k.old k.was in
      subst (λ (e : End). Chain k.old.clock Tick e (started_by k).moves (started_by k).end) (sym (h.down k.down))
      (starting k.old.end.role k.old.end.config k.old.checkpoint.book h.sound k.old.clock (block_of k.node number) Tick).chain

  -- ---- nodes

  same_old : (n m : ℕ) (a b : Node) → n ≡ m → at w.nodes n ≡ Some a → at w.nodes m ≡ Some b → b ≡ a
  same_old n m a b e one two = let both : Some b ≡ Some a = sym two ∙ (ap (λ q. at w.nodes q) (sym e) ∙ one) in cc

  step_on : (k : WholeStep w number x) (new : Node) → new.end ≡ (step k.found.end k.found.clock (block_of k.node number) k.event).end
      → new.checkpoint ≡ k.checkpoint → GoesOn k.old new
  step_on k new end checkpoint =
      let s = step k.found.end k.found.clock (block_of k.node number) k.event in
      let rs = contents_of k.found.end s in
      on_moved k.old new (plain_of w number x k) rs k.checkpoint
      (λ q.
      let p = plain_of w number x k in
      numbers_go k.found.clock (event_of w number x k) q k.old.end p.moves p.end (step_chain k))
      (end ∙ ap (λ (y : Stepped). y.end) (plain_end w number x k)) checkpoint
      (subst (λ (c : Checkpoint). IsCommitted c rs k.checkpoint) k.finds.checkpoint (whole_has k.found.checkpoint rs k.checkpoint k.whole))

  cut_on : (k : CutStep w number x) (new : Node) → HoldsNode new → new.up ≡ false → new.checkpoint ≡ with_stop None k.checkpoint
      → GoesOn k.old new
  cut_on k new h down checkpoint =
      let rs = contents_of k.found.end k.stepped in
      let has : IsCommitted k.old.checkpoint rs k.checkpoint =
      subst (λ (c : Checkpoint). IsCommitted c rs k.checkpoint) k.finds.checkpoint (cut_has k.found.checkpoint rs k.checkpoint k.cut) in
      on_fallen k.old new (nodes k.node k.old k.was) h down
      (λ q.
      subst (λ (b : Kept). ceiling_of q k.old.checkpoint.book ≤ ceiling_of q b) (sym (ap (λ (c : Checkpoint). c.book) checkpoint))
      (committed_rise q k.old.checkpoint rs k.checkpoint has))

  fall_on : (k : OfNode w) (new : Node) → HoldsNode new → new.up ≡ false → new.checkpoint ≡ with_stop None k.old.checkpoint
      → GoesOn k.old new
  fall_on k new h down checkpoint =
      on_fallen k.old new (nodes k.node k.old k.was) h down
      (λ q.
      subst (λ (b : Kept). ceiling_of q k.old.checkpoint.book ≤ ceiling_of q b) (sym (ap (λ (c : Checkpoint). c.book) checkpoint))
      (omega arith))

  start_on : (k : WholeStart w number x) (new : Node) → new.end ≡ (started_by k).end → new.checkpoint ≡ k.checkpoint → GoesOn k.old new
  start_on k new end checkpoint =
      let rs = contents_of k.old.end (started_by k) in
      on_moved k.old new (started_by k) rs k.checkpoint
      (λ q. numbers_go k.old.clock Tick q k.old.end (started_by k).moves (started_by k).end (start_chain k))
      end checkpoint (whole_has k.old.checkpoint rs k.checkpoint k.whole)

  goes_on : (n : ℕ) (old new : Node) → at w.nodes n ≡ Some old → HoldsNode new → Goes w number x n new → GoesOn old new
  goes_on n old new was h (AsItWas before is end up book stop) =
      subst (λ (q : Node). GoesOn q new) (same_old n n old before refl was is) (on_alike before new end book)
  goes_on n old new was h (IsNew fresh up bare) = absurd (none-some old (sym fresh ∙ was))
  goes_on n old new was h (ByStep k e end up checkpoint) =
      subst (λ (q : Node). GoesOn q new) (same_old n k.node old k.old e was k.was) (step_on k new end checkpoint)
  goes_on n old new was h (ByCut k e up checkpoint none) =
      subst (λ (q : Node). GoesOn q new) (same_old n k.node old k.old e was k.was) (cut_on k new h up checkpoint)
  goes_on n old new was h (ByFall k e up checkpoint none) =
      subst (λ (q : Node). GoesOn q new) (same_old n k.node old k.old e was k.was) (fall_on k new h up checkpoint)
  goes_on n old new was h (ByStart k e end up checkpoint) =
      subst (λ (q : Node). GoesOn q new) (same_old n k.node old k.old e was k.was) (start_on k new end checkpoint)

  -- ---- deeds

  abbrev DrawsNew : Deed → Type 0
  DrawsNew d = (k : Kind) (q : ℕ) → Draws k d.move q → IsDrawn w x.world k d q

  hands_new : (ds : List Deed) → AreHands number ds → AllByRecursion DrawsNew ds
  hands_new ds (inl none) = subst (AllByRecursion DrawsNew) (sym none) tt
  hands_new ds (inr (n, r, f, is)) = subst (AllByRecursion DrawsNew) (sym is) (hand_draws n r f, tt)
    where
      hand_draws : (n : ℕ) (r : _) (f : _) → DrawsNew (hand_deed number n r f)
      hand_draws n r f Tunnels q draws = absurd draws
      hand_draws n r f Sessions q draws = absurd draws
      hand_draws n r f Recoveries q draws = absurd draws

  hand_above : (n : ℕ) (r : _) (f : _) (e : Deed) → IsAbove (hand_deed number n r f) e
  hand_above n r f e Tunnels q more draws = absurd draws
  hand_above n r f e Sessions q more draws = absurd draws
  hand_above n r f e Recoveries q more draws = absurd draws

  hands_rise : (ds es : List Deed) → AreHands number ds → AllLater IsAbove es → AllLater IsAbove (ds ++ es)
  hands_rise ds es (inl none) later = subst (λ q. AllLater IsAbove (q ++ es)) (sym none) later
  hands_rise ds es (inr (n, r, f, is)) later =
      subst (λ q. AllLater IsAbove (q ++ es)) (sym is) (each_deed (IsAbove (hand_deed number n r f)) es (hand_above n r f), later)

  hands_alone : (ds : List Deed) → AreHands number ds → AllLater IsAbove ds
  hands_alone ds (inl none) = subst (AllLater IsAbove) (sym none) tt
  hands_alone ds (inr (n, r, f, is)) = subst (AllLater IsAbove) (sym is) (tt, tt)

  -- those of a step or of a start of a node, by its moves
  module _ (base : World) (n : ℕ) (node : Node) (sender : Option Sender) (s : Stepped) where
    abbrev deed : Move → Deed
    deed m = deed_of (moved_all n s.moves (with_node base n (record node { end = s.end }))) number n node.end.role sender m

    moves_new : (old new : Node) → at w.nodes n ≡ Some old → at x.world.nodes n ≡ Some new → new.end ≡ s.end
        → AllByRecursion (DrawsWithin old.end s.end) s.moves → AllByRecursion DrawsNew (after_step base number n node sender s).done
    unfolding after_step given
    moves_new old new was there end all =
        all_moves (DrawsWithin old.end s.end) DrawsNew deed s.moves
        (λ m within k q draws.
        let is = within k q draws in
        record {
          old = old;
          was = was;
          new = new;
          there = there;
          least = is.least;
          below = subst (λ (e : End). q < next_of k e) (sym end) is.below;
        })
        all

    each_rise : (ms : List Move) → AllLater IsAboveMove ms → AllLater IsAbove (map deed ms)
    each_rise [] later = tt
    each_rise (m ∷ ms) later = (
      all_moves (IsAboveMove m) (IsAbove (deed m)) deed ms (λ b above k q more draws own draws_too. above k q more draws draws_too) later.0,
      each_rise ms later.1,
    )

    moves_rise : AllLater IsAboveMove s.moves → AllLater IsAbove (after_step base number n node sender s).done
    unfolding after_step given
    moves_rise later = each_rise s.moves later

  abbrev Anew : List Deed → Type 0
  Anew ds = AllByRecursion DrawsNew ds × AllLater IsAbove ds

  hands_anew : (ds es : List Deed) → AreHands number ds → Anew es → Anew (ds ++ es)
  hands_anew ds es hands anew = (both_deeds DrawsNew ds es (hands_new ds hands) anew.0, hands_rise ds es hands anew.1)

  none_anew : x.done ≡ [] → Anew x.done
  none_anew none = subst Anew (sym none) (tt, tt)

  step_anew : (k : WholeStep w number x) → LineDoes w number x → Anew x.done
  step_anew k does =
      let new = still_there w number x k.node k.old k.was does in
      let s = step k.found.end k.found.clock (block_of k.node number) k.event in
      let p = plain_of w number x k in
      let is = plain_end w number x k in
      let node = record k.found { checkpoint = k.checkpoint } in
      let within = subst (λ (y : Stepped). AllByRecursion (DrawsWithin k.old.end y.end) y.moves) (sym is)
      (all_within k.found.clock (event_of w number x k) k.old.end p.moves p.end (step_chain k)) in
      let later = subst (λ (y : Stepped). AllLater IsAboveMove y.moves) (sym is)
      (all_rise k.found.clock (event_of w number x k) k.old.end p.moves p.end (step_chain k)) in
      subst Anew (sym k.done)
      (hands_anew k.hands _ k.are_hands (
        moves_new k.base k.node node k.sender s k.old new.0 k.was new.1 (stepped_node w number x k new.0 new.1).0 within,
        moves_rise k.base k.node node k.sender s later,
      ))

  start_anew : (k : WholeStart w number x) → LineDoes w number x → Anew x.done
  start_anew k does =
      let new = still_there w number x k.node k.old k.was does in
      let s = started_by k in
      let node = record (opened (block_of k.node number) k.old) { checkpoint = k.checkpoint } in
      subst (λ (l : Lined). Anew l.done) (sym k.is) (
        moves_new w k.node node None s k.old new.0 k.was new.1 (started_node w number x k new.0 new.1)
            (all_within k.old.clock Tick k.old.end s.moves s.end (start_chain k)),
        moves_rise w k.node node None s (all_rise k.old.clock Tick k.old.end s.moves s.end (start_chain k)),
      )

  done_anew : LineDoes w number x → Anew x.done
  done_anew (Nothing same hands none) = (hands_new x.done hands, hands_alone x.done hands)
  done_anew (ANode n role lns secret hide lt to fresh world done none) = none_anew done
  done_anew (Arms k stop world done none) = none_anew done
  done_anew (Falls k world done none) = none_anew done
  done_anew (Steps k) = step_anew k (Steps k)
  done_anew (Cuts k) = none_anew k.done
  done_anew (Starts k) = start_anew k (Starts k)

  pub draws_anew : LineDoes w number x → DrawsAnew w x
  draws_anew does = record {
    nodes = λ n old was.
        (let new = still_there w number x n old was does in
        (new.0, new.1, goes_on n old new.0 was (behind n new.0 new.1) (node_goes w number x does n new.0 new.1)));
    drawn = (done_anew does).0;
    rise = (done_anew does).1;
  }

-- ---- runs

nothing_more : StaysSo (λ e. Unit {0})
nothing_more = record {
  new = λ r c. tt;
  bare = λ r c k sound. tt;
  starts_so = λ r c k sound suits moment block. tt;
  stays = λ e kept seen fit has moment block ev. tt;
}

-- what a deed of a run drew its node has drawn
abbrev WasDrawn : World → Deed → Type 0
WasDrawn w d = (k : Kind) (q : ℕ) → Draws k d.move q → (node : Node) × (at w.nodes d.node ≡ Some node) × (q < next_of k node.end)

module _ (w : World) (x : Lined) (anew : DrawsAnew w x) where
  still_drawn : (d : Deed) → WasDrawn w d → WasDrawn x.world d
  still_drawn d had k q draws =
      let was = had k q draws in
      let new = anew.nodes d.node was.0 was.1 in
      let lt = was.2 in
      let on = new.2.numbers k in
      (new.0, new.1, omega (arith, lt, on))

  now_drawn : (d : Deed) → ((k : Kind) (q : ℕ) → Draws k d.move q → IsDrawn w x.world k d q) → WasDrawn x.world d
  now_drawn d is k q draws = let y = is k q draws in (y.new, y.there, y.below)

  -- a deed of before, and one of the line
  above : (d e : Deed) → WasDrawn w d → ((k : Kind) (q : ℕ) → Draws k e.move q → IsDrawn w x.world k e q) → IsAbove d e
  above d e had is k q more draws own draws_too =
      let was = had k q draws in
      let y = is k more draws_too in
      let both : Some was.0 ≡ Some y.old = sym was.1 ∙ (ap (λ n. at w.nodes n) (sym own) ∙ y.was) in
      let same : was.0 ≡ y.old = cc in
      let lt : q < next_of k y.old.end = subst (λ (o : Node). q < next_of k o.end) same was.2 in
      let le = y.least in
      omega (arith, lt, le)

  pub all_drawn : (ds : List Deed) → AllByRecursion (WasDrawn w) ds → AllByRecursion (WasDrawn x.world) (ds ++ x.done)
  all_drawn ds had =
      both_deeds (WasDrawn x.world) ds x.done (all_deeds (WasDrawn w) (WasDrawn x.world) ds still_drawn had)
      (all_deeds (λ d. (k : Kind) (q : ℕ) → Draws k d.move q → IsDrawn w x.world k d q) (WasDrawn x.world) x.done now_drawn anew.drawn)

  pub all_above : (ds : List Deed) → AllByRecursion (WasDrawn w) ds → AllLater IsAbove ds → AllLater IsAbove (ds ++ x.done)
  all_above ds had later =
      later_both IsAbove ds x.done later anew.rise
      (all_deeds (WasDrawn w) (λ d. AllByRecursion (IsAbove d) x.done) ds
      (λ d was.
      all_deeds (λ e. (k : Kind) (q : ℕ) → Draws k e.move q → IsDrawn w x.world k e q) (IsAbove d) x.done (λ e is. above d e was is)
      anew.drawn)
      had)

-- the laws that are used
pub record NumberLaws : Type 0 where
  pub chains : StepsAreChains
  pub starting : StartsAreChains
  pub started : StartsAreBooked
  pub looks : LooksStayTrue
  pub begin : LooksBeginTrue
  pub booked : StepsAreBooked
  pub new : NewEndsAreBooked
  pub lines : LinesDo

module _ (laws : NumberLaws) where
  -- a line, where all nodes hold
  line_anew : (w : World) → WorldHolds (λ e. Unit {0}) nothing_more w → (number : ℕ) (l : Line) (x : Lined) → FitsLine l
      → line w number l ≡ Ok x → WorldHolds (λ e. Unit {0}) nothing_more x.world × DrawsAnew w x
  line_anew w holds number l x fits is =
      let holds_on = line_holds (λ e. Unit {0}) nothing_more laws.chains laws.looks laws.begin laws.booked laws.started laws.new in
      let behind = holds_on w number holds x l is in (
        behind,
        draws_anew laws.chains laws.starting w number x (λ n node there. (holds n node there).0) (λ n node there. (behind n node there).0)
            (laws.lines w number l x fits is),
      )

  record RunOk (r : Run) : Type 0 where
    nodes : WorldHolds (λ e. Unit {0}) nothing_more r.world
    done : AllByRecursion (WasDrawn r.world) r.done
    later : AllLater IsAbove r.done

  next : (number : ℕ) (r : Run) (l : Line) → FitsLine l → (x : Lined) → line r.world number l ≡ Ok x → RunOk r → RunOk (after_line r x)
  next number r l fits x is ok =
      let y = line_anew r.world ok.nodes number l x fits is in
      record {
        nodes = y.0;
        done = all_drawn r.world x y.1 r.done ok.done;
        later = all_above r.world x y.1 r.done ok.done ok.later;
      }

  all_lines : (number : ℕ) (ls : List Line) (r : Run) → AreLines ls → RunOk r → RunOk (run_from number ls r)
  unfolding run_from
  all_lines number [] r fits ok = ok
  all_lines number (l ∷ ls) r fits ok =
      where_it_fits RunOk _ r number (line r.world number l)
      (λ fault. record { nodes = ok.nodes; done = ok.done; later = ok.later })
      (λ x is. all_lines (number + 1) ls (after_line r x) fits.1 (next number r l fits.0 x is ok))

  runs_ok : (lines : List Line) → AreLines lines → RunOk (run lines)
  runs_ok lines fits =
      all_lines 1 lines empty_run fits
      (record { nodes = λ n node there. absurd (none-some node (sym (at-none n) ∙ there)); done = tt; later = tt })

  pub ids_are_drawn_anew : IdsAreDrawnAnew
  ids_are_drawn_anew lines fits number l x fits_line is =
      (line_anew (run lines).world (runs_ok lines fits).nodes number l x fits_line is).1

  pub ids_rise : IdsRise
  ids_rise lines fits = (runs_ok lines fits).later
