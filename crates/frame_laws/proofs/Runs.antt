-- A run of lines.
use Rattle.std.proofs.Common.{◌≡◌, ℕ, suc, Bool, true, false, ◌+◌, ◌-◌, ◌*◌, ◌^◌, ◌<◌, List, [], ◌∷◌, ◌++◌, length, refl, sym, ap, ◌∙◌, append_assoc, subst, Option, Some, None, Result, Ok, Err, arith}
use Rattle.std.proofs.lemmas.Bool.{false≢true}
use Rattle.std.proofs.lemmas.Option.{none-some}
use Rattle.std.specs.Prelude.{slice_get}
use Rattle.std.specs.List.{AllByRecursion}
use Rattle.id_table.specs.Ids.{at, at-none}
use Rattle.id_table.specs.Order.{ascends-empty}
use Rattle.schedule_text.specs.declared.line.Line.{Line}
use Rattle.schedule_text.specs.Grammar.{FitsLine, AreLines}
use Rattle.end_names.specs.declared.role.Role.TheVariants.{Lac}
use Rattle.world_model.specs.declared.refusal.Refusal.{Refusal}
use Rattle.world_model.specs.World.{World, Node, Deed, Lined, empty_world, held_at, line}
use Rattle.world_model.specs.Run.{Run, empty_run, after_line, goes_on, run_from}
use Rattle.step_laws.specs.Calm.{IsCalm, AreCalm}
use Rattle.node_laws.specs.Nodes.{StaysSo}
use Rattle.node_laws.proofs.Nodes.{line_holds}
use Rattle.frame_laws.specs.Codecs.{Codecs}
use Rattle.frame_laws.specs.Births.{BirthsOfRuns}
use Rattle.frame_laws.specs.Unrecovered.{IsMain, MovesOfRuns}
use Rattle.frame_laws.specs.Past.{Passage, sent_by, handed_by, sent_in, handed_in}
use Rattle.std.proofs.lemmas.List.{append-nil, length-append}
use Rattle.frame_laws.specs.Frames.{WasSent, IsCarried, IsGiven, ByItsLine, ByItsHost, ByItsLink, ByItsStart, GivesByFrame, GivesByLink, GivesByStart, FramesOfRuns, PacketsOfRuns, GivenInRuns}
use Rattle.frame_laws.specs.Reports.{ups_in, told_of, ReportsOfRuns}
use Rattle.frame_laws.proofs.Ups.{ups_in-append, told_of-append}
use Rattle.frame_laws.proofs.Facts.{StepLaws, LooksOfRuns, FactsOfRuns, CalmFactsOfRuns, HeldIsSent, HeldOfRuns, Born, birth_in_node, Holds, among_left, all_map}
use Rattle.frame_laws.proofs.Births.{Counted}
use Rattle.frame_laws.proofs.Changes.{born_at, plays_at}
use Rattle.frame_laws.proofs.Deeds.{all_append}
use Rattle.frame_laws.proofs.Worlds.{Below, LineGives, ByLine, ByHost, ByLink, ByStart, Goes, carried_later}
use Rattle.frame_laws.proofs.Steps.{NodesHold}
use Rattle.frame_laws.proofs.LineParts.{LineOk}
use Rattle.frame_laws.proofs.Lines.{line_ok}

-- a run goes on where a line fits, and stays where it doesn't
pub where_it_fits : (P : Run → Type 0) (rest : Run → Run) (r : Run) (number : ℕ) (x : Result Lined Refusal)
    → ((fault : Option (ℕ × Refusal)) → P (record r { fault = fault })) → ((l : Lined) → x ≡ Ok l → P (rest (after_line r l)))
    → P (goes_on rest r number x)
unfolding goes_on
where_it_fits P rest r number (Err w) stops more = stops (Some (number, w))
where_it_fits P rest r number (Ok l) stops more = more l refl

pub sent_in-append : (ds es : List Deed) → sent_in (ds ++ es) ≡ sent_in ds ++ sent_in es
unfolding sent_in
sent_in-append [] es = refl
sent_in-append (d ∷ ds) es = ap (λ gs. sent_by d d.move ++ gs) (sent_in-append ds es) ∙ sym
    (append_assoc (sent_by d d.move) (sent_in ds) (sent_in es))

handed_in-append : (ds es : List Deed) → handed_in (ds ++ es) ≡ handed_in ds ++ handed_in es
unfolding handed_in
handed_in-append [] es = refl
handed_in-append (d ∷ ds) es =
    ap (λ gs. handed_by d d.move ++ gs) (handed_in-append ds es) ∙ sym (append_assoc (handed_by d d.move) (handed_in ds) (handed_in es))

was_sent_later : (gs hs : List Passage) (h : Passage) → WasSent gs h → WasSent (gs ++ hs) h
was_sent_later gs hs h s = record { passage = s.passage; there = among_left s.passage gs hs s.there; is = s.is }

-- what holds of a run before the line with a number
record RunOk (calm : Bool) (number : ℕ) (r : Run) : Type 0 where
  pub holds : Holds calm r.world (sent_in r.done)
  pub nodes : NodesHold r.world
  pub held : HeldIsSent r.world (sent_in r.done)
  pub lines : Below number (sent_in r.done)
  pub sent : AllByRecursion (WasSent (sent_in r.done)) (handed_in r.done)
  -- each frame that was sent is in a packet of the world
  pub carried : AllByRecursion (IsCarried r.world.packets) (sent_in r.done)
  pub main : calm ≡ true → AllByRecursion (λ (d : Deed). IsMain d.move) r.done

run_goes_on : (calm : Bool) (number : ℕ) (r : Run) (x : Lined) → RunOk calm number r → NodesHold x.world
    → Goes calm number r.world (sent_in r.done) x.world x.done → RunOk calm (number + 1) (after_line r x)
run_goes_on calm number r x ok nodes g =
    let gs = sent_in r.done in
    let hs = sent_in x.done in
    let is : sent_in (r.done ++ x.done) ≡ gs ++ hs = sent_in-append r.done x.done in
    record {
      holds = rw is g.holds;
      nodes = nodes;
      held = rw is (g.held ok.held);
      lines = rw is
          (all_append _ gs hs (all_map (λ (p : Passage). p.line < number) (λ (p : Passage). p.line < number + 1)
          (λ p lt. omega arith) gs ok.lines) g.lines);
      sent = rw (is, handed_in-append r.done x.done)
          (all_append (WasSent (gs ++ hs)) (handed_in r.done) (handed_in x.done)
          (all_map (WasSent gs) (WasSent (gs ++ hs)) (λ h s. was_sent_later gs hs h s) (handed_in r.done) ok.sent) g.sent);
      carried = rw is
          (all_append (IsCarried x.world.packets) gs hs
          (all_map (IsCarried r.world.packets) (IsCarried x.world.packets)
          (carried_later r.world.packets x.world.packets g.grown) gs ok.carried) g.carried);
      main = λ still. all_append (λ (d : Deed). IsMain d.move) r.done x.done (ok.main still) (g.main still);
    }

none_held : (n number : ℕ) → at (held_at empty_world n) number ≡ None
none_held n number = rw (at-none n) (at-none number)

begins : (calm : Bool) → RunOk calm 1 empty_run
unfolding sent_in handed_in
begins calm =
    record {
      holds = record { nodes = λ n node h. absurd (none-some node (sym (at-none n) ∙ h)); packets = tt };
      held = record {
        sent = λ n number f h. absurd (none-some f (sym (none_held n number) ∙ h));
        order = λ n. rw (at-none n) (ascends-empty [] refl);
        nodes = ascends-empty [] refl;
      };
      nodes = λ n node h. absurd (none-some node (sym (at-none n) ∙ h));
      lines = tt;
      sent = tt;
      carried = tt;
      main = λ still. tt;
    }

-- after some number of lines
abbrev Ended : Bool → Run → Type 0
Ended calm r = (number : ℕ) × RunOk calm number r

no_nodes : (i s x : ℕ) → Born empty_world.nodes i s x → None ≡ Some x
no_nodes i s x h = sym (ap (λ (o : Option Node). birth_in_node o s) (at-none i)) ∙ h

stopped : (calm : Bool) (number : ℕ) (r : Run) (fault : Option (ℕ × Refusal)) → RunOk calm number r
    → RunOk calm number (record r { fault = fault })
stopped calm number r fault ok =
    record { holds = ok.holds; nodes = ok.nodes; held = ok.held; lines = ok.lines; sent = ok.sent; carried = ok.carried; main = ok.main }

-- the lines of a text from a place on
abbrev StandsAt : List Line → ℕ → List Line → Type 0
StandsAt all number ls = (k : ℕ) → slice_get all (number - 1 + k) ≡ slice_get ls k

-- nothing more of ends
no_more : StaysSo (λ e. Unit {0})
no_more = record {
  new = λ r c. tt;
  bare = λ r c k sound. tt;
  starts_so = λ r c k sound suits moment block. tt;
  stays = λ e kept looks fit so moment block ev. tt;
}

-- each node is as node_laws says behind each line
nodes_behind : StepLaws → (w : World) (number : ℕ) (l : Line) (x : Lined) → NodesHold w → line w number l ≡ Ok x → NodesHold x.world
nodes_behind laws w number l x nodes h n node is =
    (line_holds (λ e. Unit {0}) no_more laws.chains laws.looks laws.begin laws.booked laws.start_booked laws.new_booked w number
    (λ m q there. (nodes m q there, tt)) x l h n node is).0

-- a line is calm where it is said of a calm run
abbrev CalmIf : Bool → List Line → Type 0
CalmIf calm lines = calm ≡ true → AreCalm lines

module _ (calm : Bool) (codecs : Codecs) (laws : StepLaws) where
  line_of_run : (number : ℕ) (r : Run) → RunOk calm number r → (l : Line) (x : Lined) → FitsLine l → (calm ≡ true → IsCalm l)
      → line r.world number l ≡ Ok x
      → LineOk calm number r.world (sent_in r.done) l x
  line_of_run number r ok l x fits is_calm h =
      line_ok calm codecs laws number r.world (sent_in r.done) ok.holds ok.lines ok.nodes x l fits is_calm ok.held h

  -- the run behind a line
  behind_line : (number : ℕ) (r : Run) → RunOk calm number r → (l : Line) (x : Lined) → FitsLine l → (calm ≡ true → IsCalm l)
      → line r.world number l ≡ Ok x
      → RunOk calm (number + 1) (after_line r x)
  behind_line number r ok l x fits is_calm h =
      run_goes_on calm number r x ok (nodes_behind laws r.world number l x ok.nodes h) (line_of_run number r ok l x fits is_calm h).goes

  ended_from : (number : ℕ) (lines : List Line) (r : Run) → AreLines lines → CalmIf calm lines → RunOk calm number r
      → Ended calm (run_from number lines r)
  unfolding run_from
  ended_from number [] r fits are_calm ok = (number, ok)
  ended_from number (l ∷ ls) r fits are_calm ok =
      where_it_fits (Ended calm) _ r number (line r.world number l) (λ fault. (number, stopped calm number r fault ok))
      (λ x h. ended_from (number + 1) ls (after_line r x) fits.1 (λ still. (are_calm still).1)
      (behind_line number r ok l x fits.0 (λ still. (are_calm still).0) h))

  ended_so : (lines : List Line) → AreLines lines → CalmIf calm lines → Ended calm (run_from 1 lines empty_run)
  ended_so lines fits are_calm = ended_from 1 lines empty_run fits are_calm (begins calm)

-- of every list of lines
module _ (codecs : Codecs) (laws : StepLaws) where
  any_line : (number : ℕ) (r : Run) → RunOk false number r → (l : Line) (x : Lined) → FitsLine l → line r.world number l ≡ Ok x
      → LineOk false number r.world (sent_in r.done) l x
  any_line number r ok l x fits h = line_of_run false codecs laws number r ok l x fits (λ still. absurd (false≢true still)) h

  any_behind : (number : ℕ) (r : Run) → RunOk false number r → (l : Line) (x : Lined) → FitsLine l → line r.world number l ≡ Ok x
      → RunOk false (number + 1) (after_line r x)
  any_behind number r ok l x fits h = behind_line false codecs laws number r ok l x fits (λ still. absurd (false≢true still)) h

  any_ended : (lines : List Line) → AreLines lines → Ended false (run_from 1 lines empty_run)
  any_ended lines fits = ended_so false codecs laws lines fits (λ still. absurd (false≢true still))

  -- births stay apart where there are few lines
  counted_from : (number : ℕ) (lines : List Line) (r : Run) → AreLines lines → RunOk false number r
      → r.world.born + 65536 * (length lines) + 65536 < 2 ^ 64 - 1 → Counted r.world.nodes r.world.born
      → let v = (run_from number lines r).world in Counted v.nodes v.born
  unfolding run_from
  counted_from number [] r fits ok few had = had
  counted_from number (l ∷ ls) r fits ok few had =
      where_it_fits (λ v. Counted v.world.nodes v.world.born) _ r number (line r.world number l) (λ fault. had)
      (λ x h.
      let g = (any_line number r ok l x fits.0 h).goes in
      let more = g.counts.few in
      counted_from (number + 1) ls (after_line r x) fits.1 (any_behind number r ok l x fits.0 h) (omega (arith, few))
      (g.counts.counted (omega (arith, few)) had))

  -- where a line fits, the run goes on behind it
  goes_ok : (number : ℕ) (r : Run) (l : Line) (x : Lined) (rest : List Line) → line r.world number l ≡ Ok x
      → run_from number (l ∷ rest) r ≡ run_from (number + 1) rest (after_line r x)
  unfolding run_from goes_on
  goes_ok number r l x rest h = rw h refl

  one_given : (all : List Line) (number : ℕ) (l : Line) (ls : List Line) (r : Run) → 0 < number → StandsAt all number (l ∷ ls)
      → (before : List Line) → all ≡ before ++ l ∷ ls → number ≡ length before + 1
      → run_from 1 (before ++ []) empty_run ≡ run_from number [] r
      → (g : Passage) → LineGives number r.world l g → IsGiven all g
  unfolding run_from
  one_given all number l ls r some at_line before parts counted run_is g (ByLine number_is line_is) =
      ByItsLine (let e : number - 1 + 0 ≡ number - 1 = omega arith in rw (number_is, ← line_is, ← e) (at_line 0))
  one_given all number l ls r some at_line before parts counted run_is g (ByHost number_is lac bytes line_is gives) =
      let same : run_from 1 before empty_run ≡ r = sym (ap (λ ls. run_from 1 ls empty_run) (append-nil before)) ∙ run_is in
      ByItsHost before ls bytes (subst (λ k. all ≡ before ++ k ∷ ls) line_is parts) (number_is ∙ counted) lac
      (subst (λ (q : Run). GivesByFrame q.world g bytes) (sym same) gives)
  one_given all number l ls r some at_line before parts counted run_is g (ByLink number_is lns gives) =
      let same : run_from 1 before empty_run ≡ r = sym (ap (λ ls. run_from 1 ls empty_run) (append-nil before)) ∙ run_is in
      ByItsLink before ls l parts (number_is ∙ counted) lns (subst (λ (q : Run). GivesByLink q.world l g) (sym same) gives)
  one_given all number l ls r some at_line before parts counted run_is g (ByStart number_is lns line_is gives) =
      let same : run_from 1 before empty_run ≡ r = sym (ap (λ ls. run_from 1 ls empty_run) (append-nil before)) ∙ run_is in
      ByItsStart before ls (subst (λ k. all ≡ before ++ k ∷ ls) line_is parts) (number_is ∙ counted) lns
      (subst (λ (q : Run). GivesByStart q.world g) (sym same) gives)

  -- each frame that was sent is given by its line
  given_from : (all : List Line) (number : ℕ) (lines : List Line) (r : Run) → AreLines lines → RunOk false number r → 0 < number
      → StandsAt all number lines
      → (before : List Line) → all ≡ before ++ lines → number ≡ length before + 1
      → ((rest : List Line) → run_from 1 (before ++ rest) empty_run ≡ run_from number rest r)
      → AllByRecursion (IsGiven all) (sent_in r.done) → AllByRecursion (IsGiven all) (sent_in (run_from number lines r).done)
  unfolding run_from
  given_from all number [] r fits ok some at_line before parts counted follows had = had
  given_from all number (l ∷ ls) r fits ok some at_line before parts counted follows had =
      where_it_fits (λ v. AllByRecursion (IsGiven all) (sent_in v.done)) _ r number (line r.world number l) (λ fault. had)
      (λ x h.
      let k = any_line number r ok l x fits.0 h in
      given_from all (number + 1) ls (after_line r x) fits.1 (any_behind number r ok l x fits.0 h) (omega arith)
      (λ j. (let e : number + 1 - 1 + j ≡ number - 1 + (suc j) = omega arith in rw e (at_line (suc j))))
      (before ++ l ∷ []) (parts ∙ sym (append_assoc before (l ∷ []) ls))
      (let longer = length-append before (l ∷ []) in omega (arith, longer, counted))
      (λ rest. ap (λ ls. run_from 1 ls empty_run) (append_assoc before (l ∷ []) rest) ∙ (follows (l ∷ rest) ∙ goes_ok number r l x rest h))
      (rw (sent_in-append r.done x.done) (all_append (IsGiven all) (sent_in r.done) (sent_in x.done) had
      (all_map (LineGives number r.world l) (IsGiven all)
      (λ g b. one_given all number l ls r some at_line before parts counted (follows []) g b)
      (sent_in x.done) k.given))))

  -- the report hands up what the moves do
  told_from : (number : ℕ) (lines : List Line) (r : Run) → AreLines lines → RunOk false number r → ups_in r.entries ≡ told_of r.done
      → ups_in (run_from number lines r).entries ≡ told_of (run_from number lines r).done
  unfolding run_from
  told_from number [] r fits ok had = had
  told_from number (l ∷ ls) r fits ok had =
      where_it_fits (λ v. ups_in v.entries ≡ told_of v.done) _ r number (line r.world number l) (λ fault. had)
      (λ x h.
      let k = any_line number r ok l x fits.0 h in
      told_from (number + 1) ls (after_line r x) fits.1 (any_behind number r ok l x fits.0 h)
      (ups_in-append r.entries x.entries ∙ ap (λ es. es ++ ups_in x.entries) had ∙ ap (λ es. told_of r.done ++ es) k.told ∙ sym
      (told_of-append r.done x.done)))

  pub reports_of_runs : ReportsOfRuns
  unfolding ups_in told_of
  reports_of_runs lines fits = told_from 1 lines empty_run fits (begins false) refl

  pub frames_of_runs : FramesOfRuns
  frames_of_runs lines fits = (any_ended lines fits).1.sent

  pub births_of_runs : BirthsOfRuns
  births_of_runs lines fits few birth n session m other a b =
      let c = counted_from 1 lines empty_run fits (begins false) (omega (arith, few)) (record {
        most = λ i s x h. absurd (none-some x (no_nodes i s x h));
        apart = λ i s j q x h k one two. absurd (none-some x (no_nodes i s x h));
      }) in
      let w = (run_from 1 lines empty_run).world in
      c.apart n session m other birth
      (born_at w.nodes n session birth a.node a.is a.birth_is) (born_at w.nodes m other birth b.node b.is b.birth_is)
      (plays_at w.nodes n Lac a.node a.is a.role) (plays_at w.nodes m Lac b.node b.is b.role)

  pub packets_of_runs : PacketsOfRuns
  packets_of_runs lines fits = (any_ended lines fits).1.carried

  pub given_in_runs : GivenInRuns
  unfolding sent_in
  given_in_runs lines fits =
      given_from lines 1 lines empty_run fits (begins false) (omega arith)
      (λ k. (let e : 1 - 1 + k ≡ k = omega arith in rw e refl)) [] refl refl (λ rest. refl) tt

  pub looks_of_runs : LooksOfRuns
  looks_of_runs lines fits n node f = ((any_ended lines fits).1.holds.nodes n node f).looks

  pub held_of_runs : HeldOfRuns
  held_of_runs lines fits = (any_ended lines fits).1.held

  pub facts_of_runs : FactsOfRuns
  facts_of_runs lines fits = (any_ended lines fits).1.holds

  -- ---- where nothing is recovered

  pub calm_facts_of_runs : CalmFactsOfRuns
  calm_facts_of_runs lines fits are_calm = (ended_so true codecs laws lines fits (λ still. are_calm)).1.holds

  pub moves_of_runs : MovesOfRuns
  moves_of_runs lines fits are_calm = (ended_so true codecs laws lines fits (λ still. are_calm)).1.main refl
