-- The tables of an end, for printing.
use Rattle.std.specs.Prelude.{ℕ, ◌%◌, List, [], ◌∷◌, Option, Some, None}
use Rattle.std.specs.List.{flat_map}
use Rattle.id_table.specs.Ids.{at, ids_of}
use Rattle.session_query.specs.Queries.{is_complete}
use Rattle.end_model.specs.declared.tunnel.Call.{Call}
use Rattle.end_model.specs.Tunnels.{Tunnel, mode_of}
use Rattle.end_model.specs.End.{End}
use Rattle.end_core.specs.declared.rows.CallRow.{CallRow}
use Rattle.end_core.specs.declared.rows.TunnelRow.{TunnelRow}

-- a session id has 16 bits
abbrev pub calls_at : ℕ → Option Call → List CallRow
calls_at s None = []
calls_at s (Some c) = record { local = s % 65536; remote = c.remote; state = c.state } ∷ []

-- the calls of a tunnel, by local session id
unfoldable pub call_rows : List (ℕ × Call) → List CallRow
call_rows calls = flat_map (λ s. calls_at s (at calls s)) (ids_of calls)

-- a tunnel is complete where it knows of each of its sessions whether the peer has it
abbrev pub rows_at : Option Tunnel → List TunnelRow
rows_at None = []
rows_at (Some t) = record {
  local = t.control.local;
  peer = t.control.peer;
  remote = t.control.remote;
  state = t.control.state;
  mode = mode_of t.recovery;
  complete = is_complete t.query;
  calls = call_rows t.calls;
} ∷ []

-- the tunnels with their calls, by local tunnel id
unfoldable pub tunnel_rows : End → List TunnelRow
tunnel_rows e = flat_map (λ i. rows_at (at e.tunnels i)) (ids_of e.tunnels)
