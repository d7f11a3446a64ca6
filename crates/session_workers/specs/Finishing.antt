-- The rule of the second queue: what was handed over was collected, or waits.
use Rattle.std.specs.Prelude.{◌≡◌, ℕ, ◌+◌, ◌-◌, List, [], ◌∷◌, ◌++◌, map}
use mathlib.Core.Option.{some}
use lib.ListN.{get_elem?}
use Rattle.session_workers.specs.declared.finished.Finished.{Finished}
use Rattle.session_workers.specs.declared.views.FinishedView.{FinishedView}
use Rattle.session_workers.specs.Lists.{total}
use Rattle.session_workers.specs.Items.{all_parts}

abbrev pub finished_numbers : List Finished → List ℕ
finished_numbers fs = map (λ f. f.number) fs

abbrev pub finished_view : ℕ → List Finished → List Finished → List Finished → FinishedView
finished_view parts made gave got = record { parts = parts; made = made; gave = gave; got = got }

abbrev pub first_finished : FinishedView
first_finished = finished_view all_parts [] [] []

abbrev pub spent_finished : FinishedView
spent_finished = finished_view 0 [] [] []

-- a pass that made these of items
abbrev pub making_finished : FinishedView → List Finished → FinishedView
making_finished v fs = finished_view v.parts (v.made ++ fs) v.gave v.got

abbrev pub splitting_finished : FinishedView → FinishedView
splitting_finished v = finished_view (v.parts - 1) v.made v.gave v.got

abbrev pub one_finished : FinishedView → FinishedView
one_finished v = finished_view 1 [] [] []

abbrev pub joined_finished : FinishedView → FinishedView → FinishedView
joined_finished v w = finished_view (v.parts + w.parts) (v.made ++ w.made) (v.gave ++ w.gave) (v.got ++ w.got)

-- Whatever is counted of what is finished, it is as much of all that was handed over as of what was collected and what waits
pub record IsCounted (items : List Finished) (views : List FinishedView) : Type 0 where
  pub parts : total (λ v. v.parts) views ≡ all_parts
  pub evens : (count : Finished → ℕ) → total (λ v. total count v.gave) views ≡ total (λ v. total count v.got) views + total count items
  pub idle : (pass : ℕ) (v : FinishedView) → get_elem? views pass ≡ some v → v.parts ≡ 0 → (v.gave ≡ []) × (v.got ≡ [])

abbrev pub GivesOne : FinishedView → Finished → FinishedView → Type 0
GivesOne v x w = w ≡ finished_view v.parts v.made (v.gave ++ x ∷ []) v.got

abbrev pub GetsOne : FinishedView → Finished → FinishedView → Type 0
GetsOne v x w = w ≡ finished_view v.parts v.made v.gave (v.got ++ x ∷ [])

-- who has every part knows that what was handed over was collected, or waits
abbrev pub Evens : FinishedView → List Finished → Type 0
Evens v items = v.parts ≡ all_parts → (count : Finished → ℕ) → total count v.gave ≡ total count v.got + total count items
