-- Room for the places of an end's calls, as its table has it.
use Rattle.std.specs.Prelude.{ℕ, List}
use Rattle.std.specs.List.{AllByRecursion}
use Rattle.id_table.specs.Tables.{Kept, HasRoom}
use Rattle.end_model.specs.declared.tunnel.CallPlace.{CallPlace}

-- there is room for the place of each of these calls
abbrev pub HaveRoom : Kept CallPlace → List ℕ → Type 0
HaveRoom kept sessions = AllByRecursion (λ s. HasRoom kept s) sessions
