-- What holds after each line of a run.
use Rattle.std.proofs.Common.{◌≡◌, ℕ, ◌+◌, List, [], ◌∷◌, ◌++◌, refl, sym, ap, ◌∙◌, subst, append_assoc, append-nil, Option, Some, Result, Ok, Err}
use Rattle.std.proofs.lemmas.Option.{none-some}
use Rattle.std.specs.List.{AllByRecursion}
use Rattle.id_table.specs.Ids.{at-none}
use Rattle.schedule_text.specs.declared.line.Line.{Line}
use Rattle.schedule_text.specs.Grammar.{FitsLine, AreLines}
use Rattle.world_model.specs.declared.refusal.Refusal.{Refusal}
use Rattle.world_model.specs.World.{Deed, Lined, line}
use Rattle.world_model.specs.Run.{Run, empty_run, after_line, goes_on, run_from, run}
use Rattle.step_laws.specs.Calm.{IsCalm, AreCalm, WorldIsCalm, calm_line}
use Rattle.frame_laws.specs.Unrecovered.{IsMain, MovesOfRuns}
use Rattle.frame_laws.proofs.Deeds.{all_behind}

-- a run goes on where a line fits, and stays where it doesn't
where_it_fits : (P : Run → Type 0) (rest : Run → Run) (r : Run) (number : ℕ) (x : Result Lined Refusal)
    → ((fault : Option (ℕ × Refusal)) → P (record r { fault = fault })) → ((l : Lined) → x ≡ Ok l → P (rest (after_line r l)))
    → P (goes_on rest r number x)
unfolding goes_on
where_it_fits P rest r number (Err w) stops more = stops (Some (number, w))
where_it_fits P rest r number (Ok l) stops more = more l refl

all_more : (P : Line → Type 0) (ls : List Line) (l : Line) → AllByRecursion P ls → P l → AllByRecursion P (ls ++ l ∷ [])
all_more P [] l h p = (p, tt)
all_more P (x ∷ ls) l h p = (h.0, all_more P ls l h.1 p)

-- the run of these lines, before the line with a number
pub record Reached (number : ℕ) (before : List Line) (r : Run) : Type 0 where
  pub fit : AreLines before
  pub calm : AreCalm before
  pub world : WorldIsCalm r.world
  pub goes : (ls : List Line) → run (before ++ ls) ≡ run_from number ls r

pub reached_is : (number : ℕ) (before : List Line) (r : Run) → Reached number before r → run before ≡ r
unfolding run_from
reached_is number before r h = ap run (sym (append-nil before)) ∙ h.goes []

next_reached : (number : ℕ) (before : List Line) (r : Run) (l : Line) (x : Lined) → Reached number before r → FitsLine l → IsCalm l
    → line r.world number l ≡ Ok x → Reached (number + 1) (before ++ l ∷ []) (after_line r x)
unfolding run_from goes_on
next_reached number before r l x h fits calm is = record {
  fit = all_more FitsLine before l h.fit fits;
  calm = all_more IsCalm before l h.calm calm;
  world = (calm_line r.world number h.world x l calm is).world;
  goes = λ ls. ap run (append_assoc before (l ∷ []) ls) ∙ (h.goes (l ∷ ls) ∙ ap (λ y. goes_on (run_from (number + 1) ls) r number y) is);
}

-- what holds at first, and is kept by each line, holds in the end
module _ (P : Run → Type 0)
    (keeps : (number : ℕ) (before : List Line) (r : Run) → Reached number before r → P r → (l : Line) (x : Lined) → IsCalm l → line r.world number l ≡ Ok x
    → Reached (number + 1) (before ++ l ∷ []) (after_line r x) → P (after_line r x))
    (stops : (r : Run) (fault : Option (ℕ × Refusal)) → P r → P (record r { fault = fault })) where
  holds_from : (number : ℕ) (before lines : List Line) (r : Run) → Reached number before r → AreLines lines → AreCalm lines → P r → P (run_from number lines r)
  unfolding run_from
  holds_from number before [] r h fits calm ok = ok
  holds_from number before (l ∷ ls) r h fits calm ok =
      where_it_fits P (run_from (number + 1) ls) r number (line r.world number l) (λ fault. stops r fault ok)
      (λ x is.
      let next = next_reached number before r l x h fits.0 calm.0 is in
      holds_from (number + 1) (before ++ l ∷ []) ls (after_line r x) next fits.1 calm.1 (keeps number before r h ok l x calm.0 is next))

  pub holds_in_runs : P empty_run → (lines : List Line) → AreLines lines → AreCalm lines → P (run lines)
  holds_in_runs first lines fits calm =
      holds_from 1 [] lines empty_run
      (record { fit = tt; calm = tt; world = λ n node there. absurd (none-some node (sym (at-none n) ∙ there)); goes = λ ls. refl }) fits calm first

-- what was done in such a run, and in its last line, is no move of a recovery
abbrev pub AreMain : List Deed → Type 0
AreMain ds = AllByRecursion (λ (d : Deed). IsMain d.move) ds

pub mains_reached : MovesOfRuns → (number : ℕ) (before : List Line) (r : Run) (x : Lined) → Reached number before (after_line r x) → AreMain x.done
mains_reached moves number before r x h =
    all_behind (λ (d : Deed). IsMain d.move) r.done x.done
    (subst (λ (q : Run). AreMain q.done) (reached_is number before (after_line r x) h) (moves before h.fit h.calm))
