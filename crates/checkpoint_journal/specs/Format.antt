-- The bytes of a journal: how its contents are spelled, and what is read of a file.
use Rattle.std.specs.Prelude.{◌≡◌, ◌⊎◌, ℕ, zero, suc, ◌+◌, ◌*◌, ◌≤◌, ◌==◌, nat_lt, Bool, if◌then◌else◌, List, [], ◌∷◌, ◌++◌, length, take, drop, replicate, slice_index, codes, Option, Some, None, Result, Ok, Err}

-- a gate is open at the byte 4f alone; 43 is what a closed one is written as
abbrev pub open_gate : ℕ
open_gate = 79

abbrev pub closed_gate : ℕ
closed_gate = 67

abbrev pub is_open : ℕ → Bool
is_open gate = gate == 79

-- what stands in the bytes 1 to 30 of a journal of this kind at the node with this number
abbrev pub header : ℕ → ℕ → List ℕ
header kind number = codes "L2TPCKP1" ++ (kind ∷ number ∷ replicate 20 0)

-- the most records of an area
unfoldable pub most_records : ℕ
most_records = 1048576

-- where the two areas begin
abbrev pub first_area : ℕ
first_area = 32

unfoldable pub second_area : ℕ
second_area = 33554496

-- the area that isn't in use, and the selector that chooses an area
abbrev pub other_area : ℕ → ℕ
other_area start = if start == 32 then second_area else first_area

abbrev pub selector : ℕ → ℕ
selector start = if start == 32 then closed_gate else open_gate

-- where the selector stands
abbrev pub selector_place : ℕ
selector_place = 31

-- where the gate behind so many records of an area stands
abbrev pub gate_place : ℕ → ℕ → ℕ
gate_place start records = start + 32 * records

-- where the content behind a gate stands
abbrev pub content_place : ℕ → ℕ → ℕ
content_place start at = gate_place start at + 1

-- ---- spelling

-- records with these contents, each behind its open gate
abbrev pub spelled : List (List ℕ) → List ℕ
spelled [] = []
spelled (content ∷ contents) = open_gate ∷ (content ++ spelled contents)

-- an area with these contents alone: its records, and a closed gate behind them
abbrev pub spelled_area : List (List ℕ) → List ℕ
spelled_area contents = spelled contents ++ closed_gate ∷ []

-- a journal with these contents in its first area, which is all that was ever done to it
abbrev pub spelling : ℕ → ℕ → List (List ℕ) → List ℕ
spelling kind number contents = open_gate ∷ (header kind number ++ closed_gate ∷ (spelled contents ++ closed_gate ∷ []))

-- ---- reading

-- the file's own gate is open
abbrev pub is_made : List ℕ → Bool
is_made file = is_open (slice_index file 0)

-- where the area that is in use begins, as the selector tells
abbrev pub start_of : List ℕ → ℕ
start_of file = if is_open (slice_index file 31) then second_area else first_area

-- the first place, counted from at, that doesn't have what is wanted there
abbrev pub differs : ℕ → List ℕ → List ℕ → Option ℕ
differs at [] bytes = None
differs at (want ∷ wants) [] = Some at
differs at (want ∷ wants) (byte ∷ bytes) = if byte == want then differs (at + 1) wants bytes else Some at

abbrev pub onto : List ℕ → Option (List (List ℕ)) → Option (List (List ℕ))
onto content None = None
onto content (Some contents) = Some (content ∷ contents)

-- The contents of the records from a gate on, up to the first one that isn't open and at most so many. Nothing is told
-- where there is no byte at the gate where reading stops.
abbrev pub records : ℕ → List ℕ → Option (List (List ℕ))
records most [] = None
records zero (gate ∷ rest) = Some []
records (suc most) (gate ∷ rest) = if is_open gate then onto (take 31 rest) (records most (drop 31 rest)) else Some []

-- where nothing is told, the file's length is the place at which it is no journal
abbrev pub told : List ℕ → Option (List (List ℕ)) → Result (List (List ℕ)) ℕ
told file None = Err (length file)
told file (Some contents) = Ok contents

-- the records of an area, or the place at which the file isn't a journal
abbrev pub area_of : ℕ → List ℕ → Result (List (List ℕ)) ℕ
area_of start file = told file (records most_records (drop start file))

abbrev pub checked : List ℕ → Option ℕ → Result (List (List ℕ)) ℕ
checked file (Some at) = Err at
checked file None = area_of (start_of file) file

-- What opening gives: the contents in order, or the place at which the file isn't a journal. A file of at most 33 bytes
-- whose own gate isn't open is made new.
unfoldable pub opens : ℕ → ℕ → List ℕ → Result (List (List ℕ)) ℕ
opens kind number file =
    if is_made file then checked file (differs 1 (header kind number) (drop 1 file))
    else if nat_lt 33 (length file) then Err 0 else Ok []

-- the file opens with the contents from before, or with these and this one last
abbrev pub IsBeforeOrAfter : ℕ → ℕ → List (List ℕ) → List ℕ → List ℕ → Type 0
IsBeforeOrAfter kind number contents content file =
    (opens kind number file ≡ Ok contents) ⊎ (opens kind number file ≡ Ok (contents ++ content ∷ []))

-- the file opens with the contents from before and the first few of these, so many at least
abbrev pub IsBeforeAndFirst : ℕ → ℕ → List (List ℕ) → List (List ℕ) → ℕ → List ℕ → Type 0
IsBeforeAndFirst kind number before contents least file =
    (n : ℕ) × (least ≤ n) × (n ≤ length contents) × (opens kind number file ≡ Ok (before ++ take n contents))

-- the file opens with the one list or with the other
abbrev pub IsOldOrNew : ℕ → ℕ → List (List ℕ) → List (List ℕ) → List ℕ → Type 0
IsOldOrNew kind number before contents file = (opens kind number file ≡ Ok before) ⊎ (opens kind number file ≡ Ok contents)

-- ---- the first bytes alone

abbrev pub head_told : List ℕ → Option ℕ → Result (Option ℕ) ℕ
head_told file None = Ok (Some (start_of file))
head_told file (Some at) = Err at

-- what a file's first bytes tell: where the area in use begins, nothing where the file is to be made new, or the place at
-- which it isn't a journal
abbrev pub head_of : ℕ → ℕ → List ℕ → Result (Option ℕ) ℕ
head_of kind number file =
    if is_made file then head_told file (differs 1 (header kind number) (drop 1 file))
    else if nat_lt 33 (length file) then Err 0 else Ok None
