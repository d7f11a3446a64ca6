-- A table of values by id, and the ids at which it can take a value without taking memory.
use Rattle.std.specs.Prelude.{ℕ, List, Option, is_some, IsSome, IsTrue, ◌||◌, ◌≢◌, eqb, option_map, filter_map, refl}
use Rattle.std.specs.List.{list_any}
use Rattle.std.specs.Map.{keys_of}
use Rattle.std.proofs.Common.{ap}
use Rattle.id_table.specs.Ids.{at, put}
use Rattle.std.specs.Coded.{Coded, code_by, coded×, coded_list, coded_ℕ}

-- the entries in the order of their ids, and the ids for which there is memory, each with a value or without one
pub record Kept (X : Type 0) : Type 0 where
  pub entries : List (ℕ × X)
  pub room : List ℕ

module _ {X : Type 0} where
  -- a table is stored as the pair of its entries and its ids
  abbrev pub kept_code : Coded X → Coded (Kept X)
  kept_code code =
      code_by (List (ℕ × X) × List ℕ) (coded× (coded_list (coded× coded_ℕ code)) (coded_list coded_ℕ)) (λ k. (k.entries, k.room)) (λ p. record { entries = p.0; room = p.1 }) (λ _. refl)

  -- with this value in place of the one with this id, and the same room
  abbrev pub kept_with : Kept X → ℕ → X → Kept X
  kept_with kept id v = record kept { entries = put kept.entries id v }

  -- a value can be put at this id, and no memory is taken: there is one, or there is room for one
  unfoldable pub HasRoom : Kept X → ℕ → Type 0
  HasRoom kept id = IsTrue (is_some (at kept.entries id) || list_any (eqb id) kept.room)

  pub entry_has_room : (kept : Kept X) (id : ℕ) → IsSome (at kept.entries id) → HasRoom kept id
  unfolding HasRoom
  entry_has_room kept id h = ap (λ b. b || list_any (eqb id) kept.room) h

  -- each id that had room has it still
  abbrev pub KeepsRoom : Kept X → Kept X → Type 0
  KeepsRoom old new = (i : ℕ) → HasRoom old i → HasRoom new i

  -- each other id that had room has it still
  abbrev pub KeepsOtherRoom : ℕ → Kept X → Kept X → Type 0
  KeepsOtherRoom id old new = (i : ℕ) → i ≢ id → HasRoom old i → HasRoom new i

  -- the entries with a value
  abbrev pub filled : List (ℕ × Option X) → List (ℕ × X)
  filled es = filter_map (λ e. option_map (λ v. (e.0, v)) e.1) es

  -- what a map shows in which an id without a value is room that was made for one
  abbrev pub shown : List (ℕ × Option X) → Kept X
  shown es = record { entries = filled es; room = keys_of es }
