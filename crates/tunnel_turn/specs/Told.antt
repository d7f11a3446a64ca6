-- What the answer to a query tells a tunnel.
use Rattle.std.specs.Prelude.{◌≡◌, ℕ, List, Option, Some, None, Ok, Err}
use Rattle.wire_base.specs.declared.pair.Pair.{Pair}
use Rattle.session_query.specs.Queries.{answered}
use Rattle.end_model.specs.Querying.{told_at}
use Rattle.end_model.specs.Tunnels.{Turn}
use Rattle.tunnel_turn.specs.declared.querying.Heard.{Heard}

-- these sessions are gone, and the query is answered; or it isn't an answer to what was asked for
abbrev pub SaysTold : Option Heard → List Pair → Turn → Type 0
SaysTold None answers t = (place : ℕ) × (told_at t.control.state t.query answers ≡ Err place)
SaysTold (Some h) answers t = (told_at t.control.state t.query answers ≡ Ok h.gone) × (h.query ≡ answered t.query)
