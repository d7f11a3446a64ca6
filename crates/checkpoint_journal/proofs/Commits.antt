-- A commit to a journal that a disk holds.
use Rattle.std.proofs.Common.{◌≡◌, inl, inr, ℕ, ◌+◌, ◌<◌, List, [], ◌∷◌, ◌++◌, length, Option, sym, ◌∙◌, ap, subst, arith, length-append}
use Rattle.std.specs.Prelude.{option_map, is_some}
use Rattle.disk_core.specs.Disk.{Held, MayLeave}
use Rattle.checkpoint_journal.specs.Format.{most_records, gate_place, IsBeforeOrAfter}
use Rattle.checkpoint_journal.specs.Commit.{commit_after, IsFile, IsStopped}
use Rattle.checkpoint_journal.specs.State.{State, next_gate, HasContents, MayFind, FindsBeforeOrAfter}
use Rattle.checkpoint_journal.proofs.Options.{on_map, map_some}
use Rattle.checkpoint_journal.proofs.Steps.{Ready, at_any, as_read, goes_on}

-- a content that is committed at the next gate of a journal with room
pub record Commits (j : State) (cs : List (List ℕ)) (content : List ℕ) (o : Option Held) (gate : ℕ) : Type 0 where
  pub place : gate ≡ next_gate j
  pub is : HasContents j cs o
  pub few : j.records < most_records
  pub size : length content ≡ 31

module _ {j : State} {cs : List (List ℕ)} {content : List ℕ} {o : Option Held} {gate : ℕ} (c : Commits j cs content o gate) (p : Option Held) where
  gate_is : gate ≡ gate_place j.start (length cs)
  gate_is = c.place ∙ ap (gate_place j.start) (sym c.is.count)

  ready : (held : Held) → IsFile j.kind j.number j.start cs held → Ready j.kind j.number j.start cs content held
  ready held file = record { file = file; room = let n = c.is.count in let few = c.few in omega arith; size = c.size }

  at_found : {held : Held} → Ready j.kind j.number j.start cs content held → (calls : ℕ) (image : List ℕ)
      → MayFind (commit_after calls (gate_place j.start (length cs)) content held) image → IsBeforeOrAfter j.kind j.number cs content image
  at_found {held} r calls image (inl read) =
      at_any r calls image
      (subst (λ (l : List ℕ). MayLeave (commit_after calls (gate_place j.start (length cs)) content held) l) (sym read) (as_read r calls))
  at_found r calls image (inr left) = at_any r calls image left

  pub crash_after : (calls : ℕ) → p ≡ option_map (commit_after calls gate content) o → FindsBeforeOrAfter j cs content p
  crash_after calls made =
      on_map (commit_after calls (gate_place j.start (length cs)) content) o p (IsFile j.kind j.number j.start cs)
      (λ (h : Held). (image : List ℕ) → MayFind h image → IsBeforeOrAfter j.kind j.number cs content image)
      (made ∙ ap (λ (n : ℕ). option_map (commit_after calls n content) o) gate_is)
      (λ held file image found. at_found (ready held file) calls image found) c.is.file

  pub crash_stopped : IsStopped gate content o p → FindsBeforeOrAfter j cs content p
  crash_stopped (inl first) = crash_after 1 first
  crash_stopped (inr second) = crash_after 3 second

  pub committed : (spare : ℕ) → p ≡ option_map (commit_after 4 gate content) o
      → HasContents (record j { records = j.records + 1; spare = spare }) (cs ++ content ∷ []) p
  committed spare made = record {
    count = let l = length-append cs (content ∷ []) in let n = c.is.count in omega arith;
    file = on_map (commit_after 4 (gate_place j.start (length cs)) content) o p (IsFile j.kind j.number j.start cs)
        (IsFile j.kind j.number j.start (cs ++ content ∷ []))
        (made ∙ ap (λ (n : ℕ). option_map (commit_after 4 n content) o) gate_is)
        (λ held file. goes_on (ready held file)) c.is.file;
  }

-- a disk that tells what it holds goes on telling
pub stopped_some : (gate : ℕ) (content : List ℕ) (o p : Option Held) → IsStopped gate content o p → is_some p ≡ is_some o
stopped_some gate content o p (inl first) = map_some (commit_after 1 gate content) o p first
stopped_some gate content o p (inr second) = map_some (commit_after 3 gate content) o p second
