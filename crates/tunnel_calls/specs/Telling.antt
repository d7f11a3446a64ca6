-- What a tunnel tells of its calls: the rows of the tables that each went through, and which of them are established.
use Rattle.std.specs.Prelude.{◌≡◌, ℕ, Bool, true, false, ◌&&◌, if◌then◌else◌, List, [], ◌∷◌, map, All, Option, Some, None}
use Rattle.wire_base.specs.declared.pair.Pair.{Pair}
use Rattle.id_table.specs.Ids.{at}
use Rattle.end_model.specs.declared.tunnel.Call.{Call}
use Rattle.end_model.specs.Calls.{is_up, pair_of}
use Rattle.tunnel_calls.specs.declared.telling.CallRows.{CallRows}
use Rattle.tunnel_calls.specs.Replays.{began, is_beginning, leads}

-- a call by its session id: the state in which it began, and the rows that it went through
abbrev pub told_of : ℕ × Call → CallRows
told_of c = record { session = c.0; began = began c.1; steps = c.1.steps }

-- each call, in order of the session ids
unfoldable pub rows_of : List (ℕ × Call) → List CallRows
rows_of calls = map told_of calls

-- ---- by the ids of the calls

abbrev pub rows_at : ℕ → Option Call → List CallRows
rows_at s None = []
rows_at s (Some c) = told_of (s, c) ∷ []

abbrev pub pairs_at : ℕ → Option Call → List Pair
pairs_at s None = []
pairs_at s (Some c) = if is_up c.state then pair_of (s, c) ∷ [] else []

-- ---- a law of what is told

-- there is a live call to whose state the rows lead: it began idle or established, each row is a row of one of the two tables, and each
-- goes on where the one before ended, the first where the call began
abbrev pub lead_to : CallRows → Option Call → Bool
lead_to r None = false
lead_to r (Some c) = is_beginning r.began && leads r.began r.steps c.state

-- what is told of each call leads to the state of the live call of that session
abbrev pub RowsLead : List (ℕ × Call) → Type 0
RowsLead calls = All (λ r. lead_to r (at calls r.session) ≡ true) (rows_of calls)
