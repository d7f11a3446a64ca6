-- Where the first moves of a step lead that a stop cuts off: the machine's world there, and that its records make the book of the end.
use Rattle.std.proofs.Common.{◌≡◌, ℕ, ◌+◌, ◌^◌, ◌<◌, true, List, [], ◌∷◌, ◌++◌, refl, sym, ◌∙◌, subst, append-nil, Option, Some}
use Rattle.std.proofs.lemmas.Option.{same_Some}
use Rattle.std.specs.List.{AllByRecursion}
use Rattle.session_book.specs.declared.record.BookTunnel.{BookTunnel}
use Rattle.session_book.specs.Books.{Kept, tunnel_at}
use Rattle.end_model.specs.declared.event.Event.{Event}
use Rattle.end_model.specs.declared.moves.Move.{Move}
use Rattle.end_model.specs.Secrets.{uncovered_event}
use Rattle.end_model.specs.End.{End, step}
use Rattle.world_model.specs.World.{World, Node, Sender, Lined, block_of}
use Rattle.frame_laws.proofs.Facts.{all_push}
use Rattle.step_laws.specs.Steps.{IsOfNoStart}
use Rattle.book_laws.specs.Books.{Mirrors, Fits, book_after}
use Rattle.book_laws.proofs.Steps.{ChainGoes, high, high_drawn, chain_goes}
use Rattle.node_laws.specs.Nodes.{HoldsUp}
use Rattle.epoch_machine.specs.Worlds as machine
use Rattle.epoch_machine.specs.Worlds.{all_rules}
use Rattle.epoch_machine.specs.Moves as moves
use Rattle.epoch_machine.specs.Moves.{step as machine_step, goes_on, after}
use Rattle.epoch_laws.specs.Answers.{AnswersOfRuns}
use Rattle.birth_laws.specs.Births.{CallsHold, BirthsOfRuns}
use Rattle.stop_laws.specs.Records.{writes, each_allowed, SameBook}
use Rattle.stop_laws.specs.Steps.{records_along, AllInStep, CutAt, StopsAmidLists}
use Rattle.stop_laws.proofs.Goings.{step_stays}
use Rattle.stop_laws.proofs.Stays.{Stays, same_tunnels, same_calls, stays_on}
use Rattle.channel_laws.specs.Accounts.{History}
use Rattle.channel_laws.specs.Facts.{BookedOk, Holds}
use Rattle.channel_laws.specs.Lines.{ComesIn, CutStep}
use Rattle.channel_laws.specs.Whole.{Leads, NoMove, OneMore, Below, KnowsFrom, PartLeads, PartsLead}
use Rattle.recovery_laws.specs.Answered.{AnswersAreToQuestions}
use Rattle.join_laws.specs.Steps.{AreOf, ChannelsClose}
use Rattle.join_laws.specs.Roles.{RequestsStay}
use Rattle.line_join_laws.specs.Chains.{MovesJoin, IsStanding}
use Rattle.line_join_laws.specs.Cuts.{HeardMovesStand}
use Rattle.line_join_laws.proofs.Amid.{Amid}
use Rattle.line_join_laws.proofs.Chain.{amid_along}
use Rattle.line_join_laws.proofs.Rebooked.{known_before}
use Rattle.cut_join_laws.proofs.CutBook.{CutsTo, front_cuts}
use Rattle.cut_join_laws.proofs.Fronts.{of_moves}
use Rattle.cut_join_laws.proofs.SameLists.{same_lists, same_mirrors}

-- the laws that are used
pub record CutLaws : Type 0 where
  pub once : AnswersOfRuns
  pub births : BirthsOfRuns
  pub answers : AnswersAreToQuestions
  pub closes : ChannelsClose
  pub requests : RequestsStay
  pub moves : MovesJoin
  pub stand : HeardMovesStand
  pub stops : StopsAmidLists
  pub parts : PartsLead

-- the machine's moves of a node leave of tunnels and calls what any step leaves that is no crash
stays_along : (n : ℕ) (js : List moves.Move) (m : machine.World) → AreOf n m js → Stays m (goes_on all_rules m js)
unfolding goes_on
stays_along n [] m own = record { tunnels = same_tunnels m.tunnels; calls = same_calls m.calls }
stays_along n (j ∷ js) m own =
    stays_on m (machine_step all_rules m j) (goes_on all_rules (machine_step all_rules m j) js) (step_stays m j own.1)
    (stays_along n js (machine_step all_rules m j) own.2)

-- no move of a step is one of a start
no_start : (n : ℕ) (sender : Option Sender) (moment : ℕ) (ev : Event) (w : World) (h : History) (made : List Move) (v : World) (g : History)
    → Leads n sender moment ev w h made v g → AllByRecursion IsOfNoStart made
no_start n sender moment ev w h made v g NoMove = tt
no_start n sender moment ev w h made v g (OneMore before u k node m x d start leads is) =
    all_push IsOfNoStart before m (no_start n sender moment ev w h before u k leads) start

-- a step that a stop cuts off, of a node that is up, in a world that is joined
pub record IsCutOff (w : World) (h : History) (number : ℕ) (x : Lined) (s : CutStep w number x) (top most : ℕ) : Type 0 where
  pub up : s.old.up ≡ true
  pub stands : IsStanding w h top
  pub room : top + 131072 < 2 ^ 64
  pub below : Below h most
  pub few : most + 147460 < 2 ^ 64
  pub event : Event
  pub sender : Option Sender
  pub comes : ComesIn w s.node s.old event sender
  pub is : s.stepped ≡ step s.found.end s.found.clock (block_of s.node number) event

module _ (laws : CutLaws) (w : World) (h : History) (number : ℕ) (x : Lined) (s : CutStep w number x) (top most : ℕ)
    (o : IsCutOff w h number x s top most) where
  abbrev n : ℕ
  n = s.node

  abbrev m : machine.World
  m = o.stands.machine

  abbrev read : Event
  read = uncovered_event s.found.end.config.secret o.event

  -- the book before the step
  abbrev k0 : Kept
  k0 = s.old.checkpoint.book

  pub own : HoldsUp s.old
  own = (o.stands.nodes s.node s.old s.was).up o.up

  -- the machine's moves until then
  abbrev ms : List moves.Move
  ms = o.stands.joined.joined.moves

  run : m ≡ after all_rules ms
  run = o.stands.joined.joined.run

  pub births : CallsHold o.stands.machine.tunnels o.stands.machine.calls
  births = subst (λ (j : machine.World). CallsHold j.tunnels j.calls) (sym run) (laws.births.calls ms)

  -- wherever moves of the step lead, the world is joined
  amid_so : (made : List Move) (v : World) (g : History) → Leads n o.sender s.found.clock read w h made v g → Holds v g
      → Amid read n top m v g
  amid_so =
      amid_along laws.answers laws.closes laws.requests w h top o.stands o.room n s.old s.was o.up o.sender s.found.clock read laws.moves

  known : KnowsFrom w h n o.sender s.found.clock read
  known made v g leads holds =
      let a = amid_so made v g leads holds in
      known_before v n a.node a.there a.book g holds a.mirrors laws.once (goes_on all_rules m a.moves) a.joined.joined

  module _ (made rest : List Move) (are : s.stepped.moves ≡ made ++ rest) where
    pub part : PartLeads w h n s.old o.sender s.found.clock read made
    part = laws.parts w h number x s most o.stands.nodes o.stands.holds o.below o.few o.up o.event o.sender o.comes o.is known made rest are

    amid : Amid read n top m part.world part.history
    amid = amid_so made part.world part.history part.leads part.holds

    -- the machine's world there
    abbrev z : machine.World
    z = goes_on all_rules m amid.moves

    stays : Stays m z
    stays = stays_along n amid.moves m amid.own

    abbrev records : List moves.Kept
    records = records_along m amid.moves

    in_step : AllInStep m n m amid.moves
    in_step = laws.stand read n m amid.moves amid.own amid.heard

    -- its records are allowed before the step, and make its book
    cuts_so : (each_allowed m n records ≡ true) × SameBook (writes m records) z
    cuts_so =
        let all = subst (λ j. AllInStep j n j amid.moves) run in_step in
        let ks = records_along (after all_rules ms) amid.moves in
        let cut : CutAt ms n amid.moves ks [] = record { one_step = all; prefix = append-nil ks } in
        subst (λ j. (each_allowed j n (records_along j amid.moves) ≡ true)
        × SameBook (writes j (records_along j amid.moves)) (goes_on all_rules j amid.moves))
        (sym run) (laws.stops.allowed ms n amid.moves ks [] cut, laws.stops.same_book ms n amid.moves all)

    -- ---- the end's book there

    abbrev pub end : End
    end = part.node.end

    same_node : amid.node ≡ part.node
    same_node = same_Some amid.node part.node (sym amid.there ∙ part.there)

    pub end_fits : Fits end
    end_fits = subst (λ (y : Node). Fits y.end) same_node amid.fit

    pub goes : ChainGoes end (high end k0) (of_moves made)
    goes =
        let b = own.book.mirrors in
        chain_goes s.found.clock read s.old.end end made
        (no_start n o.sender s.found.clock read w h made part.world part.history part.leads) part.comes own.fit.tables (high end k0)
        (record {
          tunnels = b.tunnels;
          calls = b.calls;
          all_calls = b.all_calls;
          tunnels_rise = b.tunnels_rise;
          calls_rise = b.calls_rise;
        })
        (high_drawn end k0)

    -- what the records of the moves make of the book before the step, whatever its ceilings are
    pub front_mirrors : Mirrors end (book_after k0 (of_moves made))
    front_mirrors =
        same_mirrors (book_after (high end k0) (of_moves made)) (book_after k0 (of_moves made))
        (same_lists (of_moves made) (high end k0) k0 (record { tunnels = refl; calls = refl })) end goes.mirrors

    pub cuts_at : (j : Kept) → Mirrors end j → ((i : ℕ) (b : BookTunnel) → tunnel_at j i ≡ Some b → BookedOk h n b) → CutsTo m h n j
    cuts_at j mirrors ok =
        front_cuts w h o.stands.holds m o.stands.joined births n s.old s.was own records cuts_so.0 z stays cuts_so.1 part.world part.history
        part.holds amid.node amid.there amid.fit amid.book amid.mirrors amid.joined j
        (subst (λ (y : Node). Mirrors y.end j) (sym same_node) mirrors) ok
