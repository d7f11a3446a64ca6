use Rattle.std.proofs.Common.{◌≡◌, ◌++◌, drop}
use Rattle.std.specs.List.{flat_map}
use Rattle.id_table.specs.Ids.{at, ids_of}
use Rattle.end_core.specs.Rows.{rows_at}
use Rattle.end_core.proofs.end.End.tunnel_rows.Given as goal

abbrev pub invariant-loop-id : goal.invariant-loop-id
invariant-loop-id l = l.rows ++ flat_map (λ i. rows_at (at l.self.tunnels i)) (drop l.id-index (ids_of l.self.tunnels)) ≡ flat_map (λ i. rows_at (at l.self.tunnels i)) (ids_of l.self.tunnels)
