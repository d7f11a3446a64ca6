-- The text of a checkpoint that has no room.
use Rattle.std.proofs.Common.{◌≡◌, ℕ, List, ◌++◌, codes, append_assoc}
use Rattle.std.specs.Fmt.{decimal}
use Rattle.world_model.specs.Run.{store_full_text}

pub store_full_is : (before numbered after : List ℕ) (records : ℕ) → numbered ≡ before ++ codes "store full: " ++ decimal records
    → after ≡ numbered ++ codes "\n" → after ≡ before ++ store_full_text records
unfolding store_full_text
store_full_is before numbered after records one two = rw (two, one) (simp append_assoc)
