-- The calls by the ids that the peer assigned.
use Rattle.std.specs.Prelude.{ℕ, List, Option, option_map}
use Rattle.id_table.specs.Ids.{at}
use Rattle.end_model.specs.declared.tunnel.Call.{Call}

-- the id that the peer assigned to the call of a session
abbrev pub remotes_of : List (ℕ × Call) → ℕ → Option ℕ
remotes_of calls session = option_map (λ c. c.remote) (at calls session)
