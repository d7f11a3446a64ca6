-- Spelling and reading, and commits and compactions that a crash cuts short, as laws.
use Rattle.std.specs.Prelude.{◌≡◌, ℕ, ◌<◌, ◌≤◌, List, [], ◌∷◌, ◌++◌, length, Ok}
use Rattle.std.specs.List.{AllByRecursion}
use Rattle.disk_core.specs.Disk.{Held, MayLeave, durable}
use Rattle.checkpoint_journal.specs.Format.{most_records, first_area, gate_place, other_area, spelling, spelled_area, opens, IsBeforeOrAfter, IsOldOrNew}
use Rattle.checkpoint_journal.specs.Commit.{commit_after, compact_after, IsFile}

abbrev pub Is31 : List ℕ → Type 0
Is31 content = length content ≡ 31

-- what is spelled is read, whatever stands behind it
abbrev pub SpellingOpens : Type 0
SpellingOpens = (kind number : ℕ) (contents : List (List ℕ)) (tail : List ℕ) → AllByRecursion Is31 contents → length contents ≤ most_records
    → opens kind number (spelling kind number contents ++ tail) ≡ Ok contents

-- a commit to what is spelled spells one more
abbrev pub CommitSpellsOneMore : Type 0
CommitSpellsOneMore = (kind number : ℕ) (contents : List (List ℕ)) (content : List ℕ) → AllByRecursion Is31 contents
    → length contents < most_records → length content ≡ 31
    → commit_after 4 (gate_place first_area (length contents)) content (durable (spelling kind number contents))
    ≡ durable (spelling kind number (contents ++ content ∷ []))

-- what a crash may leave after so many calls of a commit to a journal with room
pub record IsCut (kind number : ℕ) (contents : List (List ℕ)) (content : List ℕ) (calls : ℕ) (image : List ℕ) : Type 0 where
  pub start : ℕ
  pub held : Held
  pub file : IsFile kind number start contents held
  pub room : length contents < most_records
  pub size : length content ≡ 31
  pub left : MayLeave (commit_after calls (gate_place start (length contents)) content held) image

-- after any number of calls it opens with the contents from before, or with these and the new one last
abbrev pub CutIsBeforeOrAfter : Type 0
CutIsBeforeOrAfter = (kind number : ℕ) (contents : List (List ℕ)) (content : List ℕ) (calls : ℕ) (image : List ℕ)
    → IsCut kind number contents content calls image → IsBeforeOrAfter kind number contents content image

-- until the gate is written it opens with the contents from before
abbrev pub CutIsBefore : Type 0
CutIsBefore = (kind number : ℕ) (contents : List (List ℕ)) (content : List ℕ) (calls : ℕ) (image : List ℕ) → calls ≤ 2
    → IsCut kind number contents content calls image → opens kind number image ≡ Ok contents

-- after all of them it opens with the new one last
abbrev pub CutIsAfter : Type 0
CutIsAfter = (kind number : ℕ) (contents : List (List ℕ)) (content : List ℕ) (calls : ℕ) (image : List ℕ) → 4 ≤ calls
    → IsCut kind number contents content calls image → opens kind number image ≡ Ok (contents ++ content ∷ [])

-- what a crash may leave after so many calls of a compaction to these contents
pub record IsCompactionCut (kind number : ℕ) (before contents : List (List ℕ)) (calls : ℕ) (image : List ℕ) : Type 0 where
  pub start : ℕ
  pub held : Held
  pub file : IsFile kind number start before held
  pub each : AllByRecursion Is31 contents
  pub few : length contents ≤ most_records
  pub left : MayLeave (compact_after calls (other_area start) (spelled_area contents) held) image

-- after any number of calls it opens with the contents from before, or with those that it is compacted to
abbrev pub CompactionIsOldOrNew : Type 0
CompactionIsOldOrNew = (kind number : ℕ) (before contents : List (List ℕ)) (calls : ℕ) (image : List ℕ)
    → IsCompactionCut kind number before contents calls image → IsOldOrNew kind number before contents image

-- until the selector is written it opens with the contents from before
abbrev pub CompactionIsOld : Type 0
CompactionIsOld = (kind number : ℕ) (before contents : List (List ℕ)) (calls : ℕ) (image : List ℕ) → calls ≤ 2
    → IsCompactionCut kind number before contents calls image → opens kind number image ≡ Ok before

-- after all of them it opens with those that it is compacted to
abbrev pub CompactionIsNew : Type 0
CompactionIsNew = (kind number : ℕ) (before contents : List (List ℕ)) (calls : ℕ) (image : List ℕ) → 4 ≤ calls
    → IsCompactionCut kind number before contents calls image → opens kind number image ≡ Ok contents
