-- The world of each run is joined; and what else each line keeps holds of it.
use Rattle.std.proofs.Common.{◌≡◌, ℕ, ◌+◌, ◌*◌, ◌^◌, ◌<◌, ◌≤◌, List, [], ◌∷◌, ◌++◌, length, refl, sym, ap, ◌∙◌, subst, Option, arith}
use Rattle.std.specs.Prelude.{Ok}
use Rattle.std.proofs.lemmas.Option.{none-some}
use Rattle.id_table.specs.Ids.{at-none}
use Rattle.schedule_text.specs.declared.line.Line.{Line}
use Rattle.schedule_text.specs.Grammar.{AreLines, FitsLine}
use Rattle.world_model.specs.declared.refusal.Refusal.{Refusal}
use Rattle.world_model.specs.World.{World, Deed, Lined, standing_in, standing_of, empty_world, line}
use Rattle.world_model.specs.Run.{Run, empty_run, after_line, run_from, run}
use Rattle.step_laws.specs.Left.{AreSound, CallsStaySound}
use Rattle.step_laws.specs.Looks.{LooksStayTrue, LooksBeginTrue}
use Rattle.step_laws.specs.Starts.{StartsAreAllowed}
use Rattle.step_laws.specs.Steps.{StepsAreChains}
use Rattle.book_laws.specs.Books.{StepsAreBooked, NewEndsAreBooked}
use Rattle.book_laws.specs.Starts.{StartsAreBooked}
use Rattle.node_laws.specs.Nodes.{StaysSo}
use Rattle.node_laws.proofs.Nodes.{WorldHolds, line_holds}
use Rattle.node_laws.proofs.Runs.{where_it_fits}
use Rattle.channel_laws.specs.Accounts.{History, no_history, after, history_from, history_of}
use Rattle.channel_laws.specs.Lines.{LinesDo}
use Rattle.channel_laws.specs.Whole.{Below}
use Rattle.recovery_laws.specs.Answered.{AnswersAreToQuestions}
use Rattle.recovery_laws.specs.Standing.{StandsFirst}
use Rattle.recovery_laws.proofs.Nodes.{line_unarmed}
use Rattle.join_laws.specs.Steps.{ChannelsClose}
use Rattle.join_laws.specs.Roles.{RequestsStay}
use Rattle.line_join_laws.specs.Chains.{NoneIsArmed, IsStanding}
use Rattle.line_join_laws.specs.Lines.{CutStepsJoin, JoinedLinesKeep}
use Rattle.line_join_laws.specs.Runs.{JoinedRunsStand, JoinedRunsStayBelow, IsCarried}

-- ---- calls are sound

sound_so : CallsStaySound → StartsAreAllowed → StaysSo AreSound
sound_so stay starts = record {
  new = λ r c i t there. absurd (none-some t (sym (at-none i) ∙ there));
  bare = λ r c k sound i t there. absurd (none-some t (sym (at-none i) ∙ there));
  starts_so = λ r c k sound suits moment block. (starts r c k sound moment block).sound;
  stays = λ e kept looks fit sound moment block ev. stay e kept sound moment block ev;
}

-- ---- what is done

more_done : (ds es : List Deed) (h : History) → history_from (ds ++ es) h ≡ history_from es (history_from ds h)
unfolding history_from
more_done [] es h = refl
more_done (d ∷ ds) es h = more_done ds es (after h d)

first_below : Below (history_of []) 0
unfolding history_from
first_below n i e = omega arith

first_done : history_of [] ≡ no_history
unfolding history_from
first_done = refl

-- the laws that are used
pub record RunLaws : Type 0 where
  pub chains : StepsAreChains
  pub looks : LooksStayTrue
  pub begin : LooksBeginTrue
  pub booked : StepsAreBooked
  pub starting : StartsAreBooked
  pub new : NewEndsAreBooked
  pub sound : CallsStaySound
  pub allowed : StartsAreAllowed
  pub lines : LinesDo
  pub answers : AnswersAreToQuestions
  pub closes : ChannelsClose
  pub requests : RequestsStay
  pub first : StandsFirst
  pub keep : JoinedLinesKeep

module _ (laws : RunLaws) (cuts : CutStepsJoin) (P : World → History → Type 0) (carried : IsCarried P) where
  so : StaysSo AreSound
  so = sound_so laws.sound laws.allowed

  -- a run of so many lines
  record RunOk (count : ℕ) (r : Run) : Type 0 where
    nodes : WorldHolds AreSound so r.world
    stands : IsStanding r.world (history_of r.done) (65536 * count)
    below : Below (history_of r.done) (81919 * count)
    unarmed : NoneIsArmed r.world
    carries : P r.world (history_of r.done)

  first : RunOk 0 empty_run
  unfolding standing_of
  first = record {
    nodes = λ n node there. absurd (none-some node (sym (at-none n) ∙ there));
    stands = subst (λ h. IsStanding empty_world h (65536 * 0)) (sym first_done) (record {
      nodes = λ n node there. absurd (none-some node (sym (at-none n) ∙ there));
      sound = λ n node there. absurd (none-some node (sym (at-none n) ∙ there));
      holds = laws.first.holds;
      machine = laws.first.machine;
      joined = record { joined = laws.first.joined; queries = laws.first.queries; named = laws.first.named };
      answers = laws.answers.first;
      closes = laws.closes.first;
      roles = laws.requests.first;
      counts = record { born = omega arith; made = none_made };
    });
    below = first_below;
    unarmed = λ n node there. absurd (none-some node (sym (at-none n) ∙ there));
    carries = subst (P empty_world) (sym first_done) carried.first;
  }
    where
      none_made : (n i : ℕ) → (standing_of empty_world n i).made ≤ 65536 * 0
      none_made n i = let none = ap (λ o. (standing_in o i).made) (at-none n) in omega (arith, none)

  module _ (number count : ℕ) (r : Run) (ok : RunOk count r) (l : Line) (fits : FitsLine l) (x : Lined) (is : line r.world number l ≡ Ok x)
      (few : count < 2 ^ 47) where
    abbrev g : History
    g = history_from x.done (history_of r.done)

    next : RunOk (count + 1) (after_line r x)
    next =
        let nodes =
        line_holds AreSound so laws.chains laws.looks laws.begin laws.booked laws.starting laws.new r.world number ok.nodes x l is in
        let does = laws.lines r.world number l x fits is in
        let on = laws.keep cuts r.world (history_of r.done) number x (65536 * count) (81919 * count) ok.stands
        (omega (arith, few)) ok.below (omega (arith, few)) does ok.unarmed
        (λ n node there. (nodes n node there).0) (λ n node there. (nodes n node there).1) in
        let same = sym (more_done r.done x.done no_history) in
        let top : 65536 * count + 65536 ≡ 65536 * (count + 1) = omega arith in
        let most : 81919 * count + 81919 ≡ 81919 * (count + 1) = omega arith in
        record {
          nodes = nodes;
          stands = subst (λ h. IsStanding x.world h (65536 * (count + 1))) same (subst (λ k. IsStanding x.world g k) top on.0);
          below = subst (λ h. Below h (81919 * (count + 1))) same (subst (λ k. Below g k) most on.1);
          unarmed = line_unarmed laws.lines r.world number l x fits is ok.unarmed;
          carries = subst (P x.world) same
              (carried.lines r.world (history_of r.done) number x (65536 * count) (81919 * count) ok.stands (omega (arith, few)) ok.below
              (omega (arith, few)) does on.0 ok.carries);
        }

  -- as many lines, or more
  raised : (count more : ℕ) (r : Run) → count ≤ more → RunOk count r → RunOk more r
  raised count more r le ok = record {
    nodes = ok.nodes;
    stands = record {
      nodes = ok.stands.nodes;
      sound = ok.stands.sound;
      holds = ok.stands.holds;
      machine = ok.stands.machine;
      joined = ok.stands.joined;
      answers = ok.stands.answers;
      closes = ok.stands.closes;
      roles = ok.stands.roles;
      counts = record {
        born = (let b = ok.stands.counts.born in omega (arith, b, le));
        made = λ n i. (let b = ok.stands.counts.made n i in omega (arith, b, le));
      };
    };
    below = λ n i e. (let b = ok.below n i e in omega (arith, b, le));
    unarmed = ok.unarmed;
    carries = ok.carries;
  }

  all_lines : (number count : ℕ) (ls : List Line) (r : Run) → AreLines ls → count + length ls < 2 ^ 47 → RunOk count r
      → RunOk (count + length ls) (run_from number ls r)
  unfolding run_from
  all_lines number count [] r fits few ok = raised count (count + 0) r (omega arith) ok
  all_lines number count (l ∷ ls) r fits few ok =
      where_it_fits (λ (q : Run). RunOk (count + length (l ∷ ls)) q) _ r number (line r.world number l)
      (λ fault. as_fault fault (raised count (count + length (l ∷ ls)) r (omega arith) ok))
      (λ x is.
      let more = all_lines (number + 1) (count + 1) ls (after_line r x) fits.1 (omega (arith, few))
      (next number count r ok l fits.0 x is (omega (arith, few))) in
      subst (λ k. RunOk k (run_from (number + 1) ls (after_line r x))) (omega arith) more)
    where
      as_fault : (fault : Option (ℕ × Refusal)) → RunOk (count + length (l ∷ ls)) r
          → RunOk (count + length (l ∷ ls)) (record r { fault = fault })
      as_fault fault q =
          record { nodes = q.nodes; stands = q.stands; below = q.below; unarmed = q.unarmed; carries = q.carries }

  module _ (lines : List Line) (fits : AreLines lines) (few : length lines < 2 ^ 47) where
    all_ok : RunOk (length lines) (run lines)
    all_ok = subst (λ k. RunOk k (run lines)) (omega arith) (all_lines 1 0 lines empty_run fits (omega (arith, few)) first)

    pub runs_stand : IsStanding (run lines).world (history_of (run lines).done) (65536 * length lines)
    runs_stand = all_ok.stands

    pub runs_below : Below (history_of (run lines).done) (81919 * length lines)
    runs_below = all_ok.below

    pub runs_carry : P (run lines).world (history_of (run lines).done)
    runs_carry = all_ok.carries

-- where nothing else is
abbrev Nothing : World → History → Type 0
Nothing w h = Unit {0}

nothing_carried : IsCarried Nothing
nothing_carried = record { first = tt; lines = λ w h number x top most s room below few does next p. tt }

pub joined_runs_stand : RunLaws → JoinedRunsStand
joined_runs_stand laws cuts lines fits few = runs_stand laws cuts Nothing nothing_carried lines fits few

pub joined_runs_stay_below : RunLaws → JoinedRunsStayBelow
joined_runs_stay_below laws cuts lines fits few = runs_below laws cuts Nothing nothing_carried lines fits few
