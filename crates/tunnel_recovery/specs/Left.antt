-- The sessions of calls, without the calls.
use Rattle.std.specs.Prelude.{ℕ, ◌==◌, nat_lt, List, [], ◌∷◌, if◌then◌else◌, Option, Some, None}
use Rattle.end_model.specs.declared.tunnel.Call.{Call}

-- an id stands where it belongs, once
abbrev pub id_put : ℕ → List ℕ → List ℕ
id_put k [] = k ∷ []
id_put k (i ∷ is) = if nat_lt k i then k ∷ i ∷ is else if k == i then i ∷ is else i ∷ id_put k is

abbrev pub id_without : ℕ → List ℕ → List ℕ
id_without k [] = []
id_without k (i ∷ is) = if k == i then is else i ∷ id_without k is

-- a call is made, changed or ended
abbrev pub changed_id : List ℕ → ℕ → Option Call → List ℕ
changed_id is s None = id_without s is
changed_id is s (Some c) = id_put s is

unfoldable pub changed_ids : List (ℕ × Option Call) → List ℕ → List ℕ
changed_ids [] is = is
changed_ids (c ∷ cs) is = changed_ids cs (changed_id is c.0 c.1)
