-- A run with one line more.
use Rattle.std.proofs.Common.{◌≡◌, ℕ, ◌+◌, List, [], ◌∷◌, ◌++◌, length, Option, Some, None, Result, Ok, Err, IfOk, OnOk, false, refl, sym, ap, ◌∙◌, arith}
use Rattle.std.proofs.lemmas.List.{append-nil}
use Rattle.std.proofs.lemmas.Option.{none-some}
use Rattle.wire_base.specs.declared.bytes.NoMemory.{NoMemory}
use Rattle.schedule_text.specs.declared.line.Line.{Line}
use Rattle.world_model.specs.declared.refusal.Refusal.{Refusal}
use Rattle.world_model.specs.declared.refusal.Refusal.TheVariants.{Unfit, HalfSpace, Stale, StoreFull}
use Rattle.world_model.specs.World.{World, Lined, quiet_line, line}
use Rattle.world_model.specs.Run.{Run, run_from, empty_run, run, after_line, goes_on}
use Rattle.schedule_replay.specs.Counting.{ups_after, ups_of}
use Rattle.schedule_replay.specs.Fault.{Known, new_known, Leads, LeadsTo, Remains}
use Rattle.schedule_replay.proofs.Serving.{both_ups}
use Rattle.schedule_making.specs.Making.{passed_over, settled, GoesOn, IsOfRun}

-- ---- the run

last : (k : ℕ) (r : Run) (o : Result Lined Refusal) → goes_on (run_from (k + 1) []) r k o ≡ goes_on (λ (x : Run). x) r k o
unfolding run_from goes_on
last k r (Ok y) = refl
last k r (Err e) = refl

-- the run from a number on of lines with one more, where those before are taken
abbrev pub GoesOnly : ℕ → ℕ → List Line → Line → Run → Type 0
GoesOnly k m ls l r = run_from k (ls ++ l ∷ []) r ≡ goes_on (λ (x : Run). x) (run_from k ls r) m (line (run_from k ls r).world m l)

onward : (k m : ℕ) (ls : List Line) (l : Line) (r : Run) (o : Result Lined Refusal)
    → ((y : Lined) → (run_from (k + 1) ls (after_line r y)).fault ≡ None → GoesOnly (k + 1) m ls l (after_line r y))
    → (goes_on (run_from (k + 1) ls) r k o).fault ≡ None
    → goes_on (run_from (k + 1) (ls ++ l ∷ [])) r k o
    ≡ goes_on (λ (x : Run). x) (goes_on (run_from (k + 1) ls) r k o) m (line (goes_on (run_from (k + 1) ls) r k o).world m l)
unfolding goes_on
onward k m ls l r (Ok y) more none = more y none
onward k m ls l r (Err e) more none = absurd (none-some (k, e) (sym none))

one_more : (k m : ℕ) (ls : List Line) (l : Line) (r : Run) → m ≡ k + length ls → (run_from k ls r).fault ≡ None → GoesOnly k m ls l r
unfolding run_from
one_more k m [] l r is none =
    let same : k ≡ m = omega arith in
    last k r (line r.world k l) ∙ ap (λ (n : ℕ). goes_on (λ (x : Run). x) r n (line r.world n l)) same
one_more k m (x ∷ xs) l r is none =
    let next : m ≡ k + 1 + length xs = omega arith in
    onward k m xs l r (line r.world k x) (λ y fine. one_more (k + 1) m xs l (after_line r y) next fine) none

run_more : (ls : List Line) (l : Line) → (run ls).fault ≡ None → GoesOnly 1 (length ls + 1) ls l empty_run
run_more ls l none = one_more 1 (length ls + 1) ls l empty_run (omega arith) none

run_taken : (ls : List Line) (l : Line) (y : Lined) → (run ls).fault ≡ None → line (run ls).world (length ls + 1) l ≡ Ok y → run (ls ++ l ∷ []) ≡ after_line (run ls) y
unfolding goes_on
run_taken ls l y none is = run_more ls l none ∙ ap (λ (o : Result Lined Refusal). goes_on (λ (x : Run). x) (run ls) (length ls + 1) o) is

-- ---- its world

module _ (ls : List Line) (l : Line) (m : ℕ) (counted : m ≡ length ls + 1) (old new : Known) (at : IsOfRun ls old) where
  here : (o : Result Lined Refusal) → line old.told.world m l ≡ o → line (run ls).world (length ls + 1) l ≡ o
  here o is = ap (λ (k : ℕ). line (run ls).world k l) (sym counted) ∙ ap (λ (w : World). line w m l) (sym at.world) ∙ is

  taken : (y : Lined) → line old.told.world m l ≡ Ok y → LeadsTo y old.told new.told → new.spent ≡ false → IsOfRun (ls ++ l ∷ []) new
  taken y is leads spent =
      let more = run_taken ls l y at.fault (here (Ok y) is) in
      record {
        fault = ap (λ (r : Run). r.fault) more ∙ at.fault;
        world = leads.world ∙ sym (ap (λ (r : Run). r.world) more);
        ups = leads.ups ∙ ap (λ (n : ℕ). ups_after n y.entries) at.ups ∙ sym (both_ups 0 (run ls).entries y.entries) ∙ sym (ap ups_of more);
        spent = spent;
      }

  -- a line that the world takes
  pub went_on : Leads (line old.told.world m l) old.told new.told → new.spent ≡ false → IsOfRun (ls ++ l ∷ []) new
  went_on leads spent = by (line old.told.world m l) refl leads
    where
      by : (o : Result Lined Refusal) → line old.told.world m l ≡ o → Leads o old.told new.told → IsOfRun (ls ++ l ∷ []) new
      by (Ok y) is h = taken y is h spent
      by (Err e) is h = absurd h

  pub settled_taken : Leads (line old.told.world m l) old.told new.told → l ≡ settled ls (Some l)
  unfolding settled
  settled_taken leads = by (line old.told.world m l) refl leads
    where
      by : (o : Result Lined Refusal) → line old.told.world m l ≡ o → Leads o old.told new.told → l ≡ settled ls (Some l)
      by (Ok y) is h = rw (here (Ok y) is) refl
      by (Err e) is h = absurd h

  -- a line that it refuses
  pub settled_refused : (e : Refusal) → line old.told.world m l ≡ Err e → passed_over ≡ settled ls (Some l)
  unfolding settled
  settled_refused e is = rw (here (Err e) is) refl

-- a remark leaves the world as it is
pub remark_goes : (ls : List Line) (k : Known) → IsOfRun ls k → IsOfRun (ls ++ passed_over ∷ []) k
unfolding line
remark_goes ls k at =
    taken ls passed_over (length ls + 1) refl k k at (quiet_line k.told.world) refl (record { world = refl; report = sym (append-nil k.told.report); ups = refl }) at.spent

pub remark_of : (r : Result Line NoMemory) (ls : List Line) (k : Known) → IfOk r (λ l. l ≡ passed_over) → IsOfRun ls k → IfOk r (λ l. IsOfRun (ls ++ l ∷ []) k)
remark_of (Ok l) ls k is at = rw is (remark_goes ls k at)
remark_of (Err e) ls k is at = tt

-- a remark in the place of a line that is refused
pub refused_line : (r : Result Line NoMemory) (e : Refusal) (ls : List Line) (l : Line) → IfOk r (λ x. (x ≡ passed_over) × GoesOn e)
    → passed_over ≡ settled ls (Some l) → IfOk r (λ x. x ≡ settled ls (Some l))
refused_line (Ok x) e ls l is so = is.0 ∙ so
refused_line (Err y) e ls l is so = tt

pub refused_runs : (r : Result Line NoMemory) (e : Refusal) (ls : List Line) (old new : Known) → IfOk r (λ x. (x ≡ passed_over) × GoesOn e)
    → Remains e old new → IsOfRun ls old → IfOk r (λ x. IsOfRun (ls ++ x ∷ []) new)
refused_runs (Err y) e ls old new is stays at = tt
refused_runs (Ok x) (Unfit w) ls old new is stays at = rw (stays, is.0) (remark_goes ls old at)
refused_runs (Ok x) (HalfSpace number count) ls old new is stays at = rw (stays, is.0) (remark_goes ls old at)
refused_runs (Ok x) (Stale sent own) ls old new is stays at = rw (stays, is.0) (remark_goes ls old at)
refused_runs (Ok x) (StoreFull records) ls old new is stays at = absurd is.1

pub settled_none : (ls : List Line) → passed_over ≡ settled ls None
unfolding settled
settled_none ls = refl

pub none_yet : (ls : List Line) (k : Known) → ls ≡ [] → k ≡ new_known → IsOfRun ls k
unfolding run_from
none_yet ls k none is = rw (none, is) (record { fault = refl; world = refl; ups = refl; spent = refl })

-- lines with one more behind them, once it is there
pub pushed_run : {T E : Type 0} → (r : Result T E) (before after : List Line) (l : Line) (k : Known) → OnOk r (after ≡ before ++ l ∷ []) → IsOfRun (before ++ l ∷ []) k → OnOk r (IsOfRun after k)
pushed_run (Ok x) before after l k is at = rw is at
pushed_run (Err e) before after l k is at = tt
