-- The session that is drawn next, and whom a session is for.
use Rattle.std.specs.Prelude.{ℕ, List, Result, Ok, Err, Option, Some, None}
use Rattle.id_source.specs.declared.IdError.{IdError}
use Rattle.id_source.specs.Spaces.{Space, takes_id}
use Rattle.id_table.specs.Ids.{at}
use Rattle.end_model.specs.declared.tunnel.Call.{Call}
use Rattle.end_model.specs.declared.tunnel.CallPlace.{CallPlace}
use Rattle.end_model.specs.Tunnels.{Tunnel}
use Rattle.end_model.specs.End.{End}

abbrev pub drawn : Result ℕ IdError → Option ℕ
drawn (Ok s) = Some s
drawn (Err e) = None

-- the number that is drawn next, if there is one
unfoldable pub next_session : Space → Option ℕ
next_session space = drawn (takes_id space)

abbrev pub subscriber_of : Option Call → Option (List ℕ)
subscriber_of None = None
subscriber_of (Some c) = Some c.subscriber

abbrev pub subscriber_in : Option Tunnel → ℕ → Option (List ℕ)
subscriber_in None s = None
subscriber_in (Some t) s = subscriber_of (at t.calls s)

abbrev pub subscriber_by : End → Option CallPlace → ℕ → Option (List ℕ)
subscriber_by e None s = None
subscriber_by e (Some p) s = subscriber_in (at e.tunnels p.tunnel) s

-- whom the call with this session is for: the call of the tunnel that the session's place names
unfoldable pub subscriber_at : End → ℕ → Option (List ℕ)
subscriber_at e s = subscriber_by e (at e.calls s) s
