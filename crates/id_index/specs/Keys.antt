-- The keys of an index: one for each id with its label, in the order of the labels and then of the ids.
use Rattle.std.specs.Prelude.{◌≡◌, ℕ, ◌+◌, ◌*◌, ◌<◌, Bool, true, false, cond, eqb, ◌==◌, List, Option, Some, None, unwrap_or}
use Rattle.id_table.specs.Ids.{at}

-- ids have 32 bits
abbrev pub key : ℕ → ℕ → ℕ
key label id = label * 4294967296 + id

-- whether this is the key of the id with this label
abbrev pub is_key : ℕ → Option ℕ → ℕ → Bool
is_key id None k = false
is_key id (Some label) k = eqb k (key label id)

-- whether this label is meant
abbrev pub has_label : ℕ → Option ℕ → Bool
has_label label None = false
has_label label (Some l) = l == label

-- whether a key is listed; one that has only room isn't
unfoldable pub is_listed : List (ℕ × Bool) → ℕ → Bool
is_listed keys k = unwrap_or (at keys k) false

-- the same keys are listed
abbrev pub ListsAlike : List (ℕ × Bool) → List (ℕ × Bool) → Type 0
ListsAlike old new = (k : ℕ) → is_listed new k ≡ is_listed old k

-- the key of an id with the label before is not listed any more, and the one with the label after is
unfoldable pub IsRelisted : List (ℕ × Bool) → List (ℕ × Bool) → ℕ → Option ℕ → Option ℕ → Type 0
IsRelisted old new id before after =
    ((l : ℕ) → is_listed old (key l id) ≡ has_label l before) → (l i : ℕ) → i < 4294967296
    → is_listed new (key l i) ≡ cond (eqb i id) (has_label l after) (is_listed old (key l i))

-- the least id that is listed with this label
abbrev pub IsFirstListed : List (ℕ × Bool) → ℕ → Option ℕ → Type 0
IsFirstListed keys l None = (i : ℕ) → i < 4294967296 → is_listed keys (key l i) ≡ false
IsFirstListed keys l (Some i) =
    (i < 4294967296) × (is_listed keys (key l i) ≡ true) × ((j : ℕ) → j < i → is_listed keys (key l j) ≡ false)
