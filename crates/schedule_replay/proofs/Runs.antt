-- A run goes on line by line.
use Rattle.std.proofs.Common.{◌≡◌, ℕ, ◌+◌, ◌<◌, ◌≤◌, List, [], ◌∷◌, ◌++◌, length, drop, get_or, refl, sym, ap, ◌∙◌, Option, Some, None, Result, Ok, Err, add-one, drop-cons}
use Rattle.std.proofs.lemmas.List.{drop_all}
use Rattle.std.proofs.lemmas.Grind.{flat_map-append}
use Rattle.schedule_text.specs.declared.line.Line.{Line}
use Rattle.world_model.specs.declared.refusal.Refusal.{Refusal}
use Rattle.world_model.specs.declared.refusal.Refusal.TheVariants.{Unfit, HalfSpace, Stale, StoreFull}
use Rattle.world_model.specs.Texts.{Entry, entry_text, entries_text}
use Rattle.world_model.specs.World.{World, Lined, line}
use Rattle.world_model.specs.Run.{Run, run_from, after_line, goes_on, report_of, refusal_text, tables}
use Rattle.schedule_replay.specs.Fault.{Told, Known, Leads, LeadsTo, Remains}

-- a run that is at a world, with its report so far
pub record IsAt (r : Run) (t : Told) : Type 0 where
  pub world : t.world ≡ r.world
  pub report : t.report ≡ entries_text r.entries
  pub fault : r.fault ≡ None

-- the run of all lines is that of the lines that are left, from a run that is at this world
pub record GoesOn (all : Run) (ls : List Line) (i : ℕ) (t : Told) : Type 0 where
  pub so_far : Run
  pub at : IsAt so_far t
  pub is : all ≡ run_from (i + 1) (drop i ls) so_far

-- the line at a place, and those behind it
cons_at : (ls : List Line) (i : ℕ) (x : Line) → i < length ls → x ≡ get_or ls i x → drop i ls ≡ x ∷ drop (i + 1) ls
cons_at ls i x lt is = rw add-one (drop-cons ls i x lt) ∙ ap (λ (l : Line). l ∷ drop (i + 1) ls) (sym is)

run_cons : (k : ℕ) (l : Line) (ls : List Line) (r : Run) (o : Result Lined Refusal) → line r.world k l ≡ o → run_from k (l ∷ ls) r ≡ goes_on (run_from (k + 1) ls) r k o
unfolding run_from
run_cons k l ls r o is = rw is refl

went_on : (k : ℕ) (ls : List Line) (r : Run) (l : Lined) → goes_on (run_from (k + 1) ls) r k (Ok l) ≡ run_from (k + 1) ls (after_line r l)
unfolding goes_on
went_on k ls r l = refl

stops : (k : ℕ) (ls : List Line) (r : Run) (x : Refusal) → goes_on (run_from (k + 1) ls) r k (Err x) ≡ record r { fault = Some (k, x) }
unfolding goes_on
stops k ls r x = refl

none_left : (k : ℕ) (r : Run) → run_from k [] r ≡ r
unfolding run_from
none_left k r = refl

texts-append : (es fs : List Entry) → entries_text (es ++ fs) ≡ entries_text es ++ entries_text fs
texts-append es fs = flat_map-append entry_text es fs

leads_on : (r : Run) (t u : Told) (l : Lined) → IsAt r t → LeadsTo l t u → IsAt (after_line r l) u
leads_on r t u l at h = record {
  world = h.world;
  report = h.report ∙ ap (λ xs. xs ++ entries_text l.entries) at.report ∙ sym (texts-append r.entries l.entries);
  fault = at.fault;
}

module _ (all : Run) (ls : List Line) (i : ℕ) (t : Told) (on : GoesOn all ls i t) (x : Line) where
  at_line : (o : Result Lined Refusal) → i < length ls → x ≡ get_or ls i x → line t.world (i + 1) x ≡ o → all ≡ goes_on (run_from (i + 1 + 1) (drop (i + 1) ls)) on.so_far (i + 1) o
  at_line o lt is ran = on.is ∙ ap (λ (ks : List Line). run_from (i + 1) ks on.so_far) (cons_at ls i x lt is) ∙ run_cons (i + 1) x (drop (i + 1) ls) on.so_far o (ap (λ (w : World). line w (i + 1) x) (sym on.at.world) ∙ ran)

  pub run_goes_on : (u : Told) → i < length ls → x ≡ get_or ls i x → Leads (line t.world (i + 1) x) t u → GoesOn all ls (i + 1) u
  run_goes_on u lt is h = by (line t.world (i + 1) x) refl h
    where
      by : (o : Result Lined Refusal) → line t.world (i + 1) x ≡ o → Leads o t u → GoesOn all ls (i + 1) u
      by (Ok l) ran h = record { so_far = after_line on.so_far l; at = leads_on on.so_far t u l on.at h; is = at_line (Ok l) lt is ran ∙ went_on (i + 1) (drop (i + 1) ls) on.so_far l }
      by (Err e) ran h = absurd h

  pub run_stops : (e : Refusal) → i < length ls → x ≡ get_or ls i x → line t.world (i + 1) x ≡ Err e → all ≡ record on.so_far { fault = Some (i + 1, e) }
  run_stops e lt is ran = at_line (Err e) lt is ran ∙ stops (i + 1) (drop (i + 1) ls) on.so_far e

  pub report_stopped : (e : Refusal) → i < length ls → x ≡ get_or ls i x → line t.world (i + 1) x ≡ Err e → report_of all ≡ t.report ++ refusal_text (i + 1) e
  unfolding report_of
  report_stopped e lt is ran = ap report_of (run_stops e lt is ran) ∙ ap (λ xs. xs ++ refusal_text (i + 1) e) (sym on.at.report)

  pub fault_stopped : (e : Refusal) → i < length ls → x ≡ get_or ls i x → line t.world (i + 1) x ≡ Err e → all.fault ≡ Some (i + 1, e)
  fault_stopped e lt is ran = ap (λ (r : Run). r.fault) (run_stops e lt is ran)

module _ (all : Run) (ls : List Line) (i : ℕ) (t : Told) (on : GoesOn all ls i t) (le : length ls ≤ i) where
  ended : all ≡ on.so_far
  ended = on.is ∙ rw (drop_all i ls le) (none_left (i + 1) on.so_far)

  pub fault_whole : all.fault ≡ None
  fault_whole = ap (λ (r : Run). r.fault) ended ∙ on.at.fault

  whole_by : (f : Option (ℕ × Refusal)) → on.so_far.fault ≡ f → f ≡ None → report_of on.so_far ≡ entries_text on.so_far.entries ++ tables on.so_far.world
  unfolding report_of
  whole_by f is none = rw (is ∙ none) refl

  pub report_whole : report_of all ≡ t.report ++ tables t.world
  report_whole = ap report_of ended ∙ whole_by on.so_far.fault refl on.at.fault ∙ rw (on.at.report, on.at.world) refl

-- whatever a line is refused for, the report is what it was
pub report_stays : (x : Refusal) (old new : Known) → Remains x old new → new.told.report ≡ old.told.report
report_stays (Unfit why) old new h = ap (λ (k : Known). k.told.report) h
report_stays (HalfSpace number count) old new h = ap (λ (k : Known). k.told.report) h
report_stays (Stale sent own) old new h = ap (λ (k : Known). k.told.report) h
report_stays (StoreFull records) old new h = h.0
