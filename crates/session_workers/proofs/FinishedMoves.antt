-- Each move keeps the rule of the second queue.
use Rattle.std.proofs.Common.{◌≡◌, ◌≢◌, ℕ, ◌+◌, ◌-◌, ◌<◌, List, [], ◌∷◌, ◌++◌, slice_set, refl, ap, sym, ◌∙◌, arith, ⊎_elim}
use mathlib.Core.Option.{some}
use lib.ListN.{get_elem?}
use Rattle.crossbeam_queue.specs.Fifo.{Pushes, Pops, Forks, Merges, Learns}
use Rattle.crossbeam_queue.proofs.Lists.{at_set}
use Rattle.session_workers.specs.declared.finished.Finished.{Finished}
use Rattle.session_workers.specs.declared.views.FinishedView.{FinishedView}
use Rattle.session_workers.specs.Lists.{total}
use Rattle.session_workers.specs.Finishing.{finished_view, first_finished, spent_finished, making_finished, splitting_finished, one_finished, joined_finished, IsCounted, GivesOne, GetsOne, Evens}
use Rattle.session_workers.proofs.Lists.{total_set, total_snoc, total_alone, total_append}
use Rattle.session_workers.proofs.EachView.{each_set, each_snoc, each_alone}

abbrev Idle : ℕ → FinishedView → Type 0
Idle pass v = v.parts ≡ 0 → (v.gave ≡ []) × (v.got ≡ [])

abbrev gave : (Finished → ℕ) → FinishedView → ℕ
gave count v = total count v.gave

abbrev got : (Finished → ℕ) → FinishedView → ℕ
got count v = total count v.got

abbrev parts : FinishedView → ℕ
parts v = v.parts

pub finished_begins : IsCounted [] (first_finished ∷ [])
finished_begins = record { parts = refl; evens = λ count. refl; idle = each_alone Idle first_finished (λ none. (refl, refl)) }

pub gives : (n pass : ℕ) (v : FinishedView) (x : Finished) → 0 < v.parts → Pushes IsCounted n pass v x (GivesOne v x)
gives n pass v x part items views room h at =
    let w = finished_view v.parts v.made (v.gave ++ x ∷ []) v.got in (
      w,
      record {
        parts = (let b = total_set parts views pass v w at in let c = h.parts in omega arith);
        evens = λ count. (
            let a = total_set (gave count) views pass v w at in
            let b = total_set (got count) views pass v w at in
            let c = h.evens count in
            let d = total_append count v.gave (x ∷ []) in
            let e = total_append count items (x ∷ []) in
            omega arith);
        idle = each_set Idle views pass w (λ none. absurd (omega arith)) (λ j u other there. h.idle j u there);
      },
      refl,
    )

pub gets : (pass : ℕ) (v : FinishedView) → 0 < v.parts → Pops IsCounted pass v (GetsOne v)
gets pass v part x items views h at =
    let w = finished_view v.parts v.made v.gave (v.got ++ x ∷ []) in (
      w,
      record {
        parts = (let b = total_set parts views pass v w at in let c = h.parts in omega arith);
        evens = λ count. (
            let a = total_set (gave count) views pass v w at in
            let b = total_set (got count) views pass v w at in
            let c = h.evens count in
            let d = total_append count v.got (x ∷ []) in
            omega arith);
        idle = each_set Idle views pass w (λ none. absurd (omega arith)) (λ j u other there. h.idle j u there);
      },
      refl,
    )

-- the parts are cut in two, and what was done stays with the first
cuts : (pass : ℕ) (v : FinishedView) (a b : ℕ) → 0 < a → a + b ≡ v.parts → Forks IsCounted pass v (finished_view a v.made v.gave v.got) (finished_view b [] [] [])
cuts pass v a b some_part whole items views h at =
    let w = finished_view a v.made v.gave v.got in
    let new = finished_view b [] [] [] in
    let vs = slice_set views pass w in
    record {
      parts = (let s = total_snoc parts vs new in let t = total_set parts views pass v w at in let c = h.parts in omega arith);
      evens = λ count. (
          let s = total_snoc (gave count) vs new in
          let t = total_set (gave count) views pass v w at in
          let s' = total_snoc (got count) vs new in
          let t' = total_set (got count) views pass v w at in
          let c = h.evens count in
          omega arith);
      idle = each_snoc Idle vs new (λ j none. (refl, refl)) (each_set Idle views pass w (λ none. absurd (omega arith)) (λ j u other there. h.idle j u there));
    }

-- what a pass made of an item is noted
pub makes : (pass : ℕ) (v : FinishedView) (fs : List Finished) → Forks IsCounted pass v (making_finished v fs) spent_finished
makes pass v fs items views h at =
    let w = making_finished v fs in
    let vs = slice_set views pass w in
    record {
      parts = (let s = total_snoc parts vs spent_finished in let t = total_set parts views pass v w at in let c = h.parts in omega arith);
      evens = λ count. (
          let s = total_snoc (gave count) vs spent_finished in
          let t = total_set (gave count) views pass v w at in
          let s' = total_snoc (got count) vs spent_finished in
          let t' = total_set (got count) views pass v w at in
          let c = h.evens count in
          omega arith);
      idle = each_snoc Idle vs spent_finished (λ j none. (refl, refl)) (each_set Idle views pass w (λ none. h.idle pass v at none) (λ j u other there. h.idle j u there));
    }

pub cuts_one : (pass : ℕ) (v : FinishedView) → 1 < v.parts → Forks IsCounted pass v (splitting_finished v) (one_finished v)
cuts_one pass v more = cuts pass v (v.parts - 1) 1 (omega arith) (omega arith)

pub finished_merge : (pass : ℕ) (v : FinishedView) (other : ℕ) (u : FinishedView) → Merges IsCounted pass v other u (joined_finished v u) spent_finished
finished_merge pass v other u items views h at two at' =
    let both = joined_finished v u in
    let vs = slice_set views pass both in
    let was : get_elem? views other ≡ some u = ⊎_elim (λ (x : (other ≡ pass) × (both ≡ u)). absurd (two x.0)) (λ (x : (other ≢ pass) × (get_elem? views other ≡ some u)). x.1) (at_set views pass other both u at') in
    record {
      parts = (let a = total_set parts vs other u spent_finished at' in let b = total_set parts views pass v both at in let c = h.parts in omega arith);
      evens = λ count. (
          let a = total_set (gave count) vs other u spent_finished at' in
          let b = total_set (gave count) views pass v both at in
          let a' = total_set (got count) vs other u spent_finished at' in
          let b' = total_set (got count) views pass v both at in
          let c = h.evens count in
          let d = total_append count v.gave u.gave in
          let d' = total_append count v.got u.got in
          omega arith);
      idle = each_set Idle vs other spent_finished (λ none. (refl, refl))
          (λ j y apart there. each_set Idle views pass both (λ none. (let a = h.idle pass v at (omega arith) in let b = h.idle other u was (omega arith) in (rw (a.0, b.0) refl, rw (a.1, b.1) refl)))
          (λ k z away here. h.idle k z here) j y there);
    }

pub evens_tell : (pass : ℕ) (v : FinishedView) → Learns IsCounted pass v (Evens v)
evens_tell pass v items views h at all count =
    let a = total_alone (gave count) parts views pass v at (h.parts ∙ sym all) (λ j u there none. ap (total count) (h.idle j u there none).0) in
    let b = total_alone (got count) parts views pass v at (h.parts ∙ sym all) (λ j u there none. ap (total count) (h.idle j u there none).1) in
    let c = h.evens count in
    omega arith
