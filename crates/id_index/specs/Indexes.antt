-- What an index says of the labels of ids.
use Rattle.std.specs.Prelude.{◌≡◌, ◌≢◌, ℕ, ◌<◌, ◌≤◌, Bool, true, false, List, Option, Some, None}
use Rattle.id_table.specs.Ids.{at}
use Rattle.id_index.specs.Keys.{key, has_label, is_listed}

pub record Listing : Type 0 where
  -- a key with `false` is room that was made for one
  pub keys : List (ℕ × Bool)
  -- whether each id with a label is listed
  pub whole : Bool

-- where the index is whole, an id is listed with a label just where it has it
unfoldable pub Lists : Listing → (ℕ → Option ℕ) → Type 0
Lists x labels = x.whole ≡ true → (l i : ℕ) → i < 4294967296 → is_listed x.keys (key l i) ≡ has_label l (labels i)

-- an id had the one label and gets the other, and each other id keeps its own
abbrev pub IsRelabelled : Listing → Listing → ℕ → Option ℕ → Option ℕ → Type 0
IsRelabelled x y id before after =
    (labels next : ℕ → Option ℕ) → Lists x labels → labels id ≡ before → next id ≡ after
    → ((i : ℕ) → i ≢ id → next i ≡ labels i) → Lists y next

-- the least id with this label
unfoldable pub IsFirst : (ℕ → Option ℕ) → ℕ → Option ℕ → Type 0
IsFirst labels l None = (i : ℕ) → i < 4294967296 → has_label l (labels i) ≡ false
IsFirst labels l (Some i) =
    (i < 4294967296) × (has_label l (labels i) ≡ true) × ((j : ℕ) → j < i → has_label l (labels j) ≡ false)

-- each id of a table has 32 bits
unfoldable pub IsWithin : {X : Type 0} → List (ℕ × X) → Type 0
IsWithin es = (i : ℕ) → 4294967296 ≤ i → at es i ≡ None
