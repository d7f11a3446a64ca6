-- The rule of the queue: each item has the number that its put gave it, and no number is taken twice.
use Rattle.std.specs.Prelude.{◌≡◌, ℕ, ◌+◌, ◌-◌, ◌<◌, ◌≤◌, ◌^◌, Bool, true, false, List, [], ◌∷◌, ◌++◌, length, map, slice_get, All, Option, Some, None}
use mathlib.Core.Option.{some}
use mathlib.Core.List.{IsPrefix}
use lib.ListN.{get_elem?}
use Rattle.logbook.specs.Pages.{Book}
use Rattle.session_cells.specs.declared.seen.CellSeen.{CellSeen}
use Rattle.session_workers.specs.declared.item.Numbered.{Numbered}
use Rattle.session_workers.specs.declared.views.ItemView.{ItemView}
use Rattle.session_workers.specs.declared.views.RowName.{RowName}
use Rattle.session_workers.specs.Lists.{total, times, count_up}

abbrev pub name_in : Book → RowName
name_in b = record { number = b.number; log_name = b.log_name; cells_name = b.cells_name }

-- of which row the token is
abbrev pub name_of : CellSeen → RowName
name_of s = name_in s.seen.book

abbrev pub numbers_of : List Numbered → List ℕ
numbers_of xs = map (λ x. x.number) xs

-- as many parts as there are
abbrev pub all_parts : ℕ
all_parts = 2 ^ 64

abbrev pub item_view : Bool → ℕ → Option RowName → List Numbered → List Numbered → ItemView
item_view opener parts row known taken = record { opener = opener; parts = parts; row = row; known = known; taken = taken }

abbrev pub first_view : ItemView
first_view = item_view true all_parts None [] []

-- a pass that knows nothing
abbrev pub spent_view : ItemView
spent_view = item_view false 0 None [] []

abbrev pub named_view : ItemView → RowName → ItemView
named_view v row = item_view v.opener v.parts (Some row) v.known v.taken

-- a pass that gave one part to another
abbrev pub splitting_view : ItemView → ItemView
splitting_view v = item_view v.opener (v.parts - 1) v.row v.known v.taken

abbrev pub worker_view : ItemView → ItemView
worker_view v = item_view false 1 v.row v.known []

abbrev pub joined_view : ItemView → ItemView → ItemView
joined_view v w = item_view v.opener (v.parts + w.parts) v.row v.known (v.taken ++ w.taken)

-- the item is of the row
abbrev pub IsFrom : Option RowName → Numbered → Type 0
IsFrom row x = (r : RowName) → row ≡ Some r → name_of x.item.seen ≡ r

-- it was put, as its number says
abbrev pub IsPut : List Numbered → Numbered → Type 0
IsPut put x = (0 < x.number) × (slice_get put (x.number - 1) ≡ Some x)

-- what a pass knows is so, where these were put
pub record Fits (opener : ℕ) (put : List Numbered) (row : Option RowName) (pass : ℕ) (v : ItemView) : Type 0 where
  pub known : IsPrefix v.known put
  pub took : All (IsPut put) v.taken
  pub opens : v.opener ≡ true → (pass ≡ opener) × (v.known ≡ put) × (v.row ≡ row)
  pub named : (r : RowName) → v.row ≡ Some r → row ≡ Some r

-- What was put is what is gone, and then what the queue holds. It is numbered from 1 on, and what the passes took is what is gone, each once
pub record IsKept (items : List Numbered) (views : List ItemView) : Type 0 where
  pub put : List Numbered
  pub gone : List Numbered
  pub opener : ℕ
  pub row : Option RowName
  pub whole : gone ++ items ≡ put
  pub numbers : numbers_of put ≡ count_up 1 (length put)
  pub rows : (k : ℕ) (x : Numbered) → slice_get put k ≡ Some x → IsFrom row x
  pub parts : total (λ v. v.parts) views ≡ all_parts
  pub once : (n : ℕ) → total (λ v. times n (numbers_of v.taken)) views ≡ times n (numbers_of gone)
  pub idle : (pass : ℕ) (v : ItemView) → get_elem? views pass ≡ some v → v.parts ≡ 0 → v.taken ≡ []
  pub fits : (pass : ℕ) (v : ItemView) → get_elem? views pass ≡ some v → Fits opener put row pass v

-- the item was put behind all others
abbrev pub PutsOne : ItemView → Numbered → ItemView → Type 0
PutsOne v x w = w ≡ item_view v.opener v.parts v.row (v.known ++ x ∷ []) v.taken

-- The item is of the row, it was put, as its number says, and this pass had not taken it
abbrev pub TakesOne : ItemView → Numbered → ItemView → Type 0
TakesOne v x w =
    IsFrom v.row x
    × (0 < x.number)
    × IsPrefix v.known w.known × (slice_get w.known (x.number - 1) ≡ Some x)
    × (w ≡ item_view v.opener v.parts v.row w.known (v.taken ++ x ∷ []))
    × (times x.number (numbers_of v.taken) ≡ 0)
    × (v.opener ≡ true → w.known ≡ v.known)

-- To the one that puts: the queue holds the last of what was put, and what it took was put. Where it has every part, what is gone is what
-- it took
abbrev pub Tells : ItemView → List Numbered → Type 0
Tells v items =
    v.opener ≡ true
    → (gone : List Numbered) × (gone ++ items ≡ v.known) × (v.parts ≡ all_parts → (n : ℕ) → times n (numbers_of v.taken) ≡ times n (numbers_of gone))
    × All (IsPut v.known) v.taken

-- no number is among those that the pass took twice
abbrev pub TookOnce : ItemView → List Numbered → Type 0
TookOnce v items = (n : ℕ) → times n (numbers_of v.taken) ≤ 1
