-- Where the moves of a step lead the machine may stop: with records that it keeps in the world before the step.
use Rattle.std.proofs.Common.{ℕ, List, [], sym, subst, append-nil}
use Rattle.epoch_machine.specs.Worlds.{all_rules}
use Rattle.epoch_machine.specs.Moves as moves
use Rattle.epoch_machine.specs.Moves.{falls, step, goes_on, after}
use Rattle.stop_laws.specs.Steps.{records_along, AllInStep, CutAt, StopsAmidLists}
use Rattle.recovery_laws.specs.Answered.{AnswersAreToQuestions}
use Rattle.join_laws.specs.Steps.{ChannelsClose}
use Rattle.join_laws.specs.Roles.{RequestsStay}
use Rattle.line_join_laws.specs.Chains.{MovesJoin}
use Rattle.line_join_laws.specs.Cuts.{HeardMovesStand, StopsThere, JoinedStepsStop}
use Rattle.line_join_laws.proofs.Chain.{amid_along}

-- in a world that the machine's moves lead to
stops_there : StopsAmidLists → (ms : List moves.Move) (n : ℕ) (js : List moves.Move)
    → AllInStep (after all_rules ms) n (after all_rules ms) js
    → StopsThere n (after all_rules ms) (goes_on all_rules (after all_rules ms) js)
stops_there laws ms n js all =
    let ks = records_along (after all_rules ms) js in
    let cut : CutAt ms n js ks [] = record { one_step = all; prefix = append-nil ks } in
    record {
      records = ks;
      allowed = laws.allowed ms n js ks [] cut;
      stops = laws.is_stop ms n js ks [] cut;
      alike = laws.same_book ms n js all;
    }

pub joined_steps_stop : AnswersAreToQuestions → ChannelsClose → RequestsStay → HeardMovesStand → StopsAmidLists → MovesJoin
    → JoinedStepsStop
joined_steps_stop answers closes requests stand laws join w h top s room n old was up sender moment ev made v g leads holds =
    let a = amid_along answers closes requests w h top s room n old was up sender moment ev join made v g leads holds in
    let run = s.joined.joined.run in
    let all : AllInStep s.machine n s.machine a.moves = stand ev n s.machine a.moves a.own a.heard in
    record {
      node = a.node;
      there = a.there;
      book = a.book;
      mirrors = a.mirrors;
      machine = goes_on all_rules s.machine a.moves;
      joined = a.joined;
      stops = subst (λ m. StopsThere n m (goes_on all_rules m a.moves)) (sym run)
          (stops_there laws s.joined.joined.moves n a.moves (subst (λ m. AllInStep m n m a.moves) run all));
    }
