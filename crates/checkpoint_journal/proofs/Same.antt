-- A file that isn't written, and one that rests.
use Rattle.std.proofs.Common.{◌≡◌, inl, inr, ℕ, List, Option, Some, None, sym, ◌∙◌, ap, subst}
use Rattle.std.specs.Prelude.{option_map, IfSome, Ok}
use Rattle.disk_core.specs.Disk.{Held, MayLeave, settled}
use Rattle.disk_core.proofs.Torn.{only_synced}
use Rattle.checkpoint_journal.specs.Format.{opens}
use Rattle.checkpoint_journal.specs.Commit.{IsFile}
use Rattle.checkpoint_journal.specs.State.{State, HasContents, MayFind, FindsNothingNew}
use Rattle.checkpoint_journal.specs.Answers.{IsSame, IsUnwritten, IsSafe}

settled_finds : (held : Held) (image : List ℕ) → MayFind (settled held) image → image ≡ held.bytes
settled_finds held image (inl read) = read
settled_finds held image (inr left) = only_synced held.bytes image left

same_finds : (held : Held) (file : Option Held) → IsSame file held → FindsNothingNew file held
same_finds held file (inl is) = subst (λ (f : Option Held). FindsNothingNew f held) (sym is) (λ image found. found)
same_finds held file (inr is) = subst (λ (f : Option Held). FindsNothingNew f held) (sym is) (λ image found. inl (settled_finds held image found))

once_settled : (held : Held) (file : Option Held) → IsSame file (settled held) → IsSame file held
once_settled held file (inl is) = inr is
once_settled held file (inr is) = inr is

-- a file that was synced, and then wasn't written
pub safe_synced : (o p file : Option Held) → p ≡ option_map settled o → IfSome p (IsUnwritten file) → IfSome o (IsSafe file)
safe_synced None p file made h = tt
safe_synced (Some held) p file made h = λ premise.
    same_finds held file (once_settled held file (subst (λ (q : Option Held). IfSome q (IsUnwritten file)) made h premise))

-- all that may be found of a journal between two calls
pub finds_contents : (j : State) (contents : List (List ℕ)) (o : Option Held) → HasContents j contents o
    → IfSome o (λ file. (image : List ℕ) → MayFind file image → opens j.kind j.number image ≡ Ok contents)
finds_contents j contents None is = tt
finds_contents j contents (Some held) is = λ image found. ap (opens j.kind j.number) (rests is.file image found) ∙ is.file.opened
  where
    rests : IsFile j.kind j.number j.start contents held → (image : List ℕ) → MayFind held image → image ≡ held.bytes
    rests file image (inl read) = read
    rests file image (inr left) = only_synced held.bytes image (subst (λ (h : Held). MayLeave h image) file.synced left)
