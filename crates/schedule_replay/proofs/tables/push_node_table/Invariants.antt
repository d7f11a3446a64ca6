use Rattle.std.proofs.Common.{◌≡◌, ◌++◌, drop}
use Rattle.std.specs.List.{flat_map}
use Rattle.id_table.specs.Ids.{at, ids_of}
use Rattle.world_model.specs.Run.{tunnel_line}
use Rattle.schedule_replay.proofs.tables.push_node_table.Given as goal

abbrev pub invariant-loop-id : goal.invariant-loop-id
invariant-loop-id l = l.out ++ flat_map (λ i. tunnel_line l.number l.node i (at l.node.end.tunnels i)) (drop l.id-index (ids_of l.node.end.tunnels)) ≡ l.fn.out ++ flat_map (λ i. tunnel_line l.number l.node i (at l.node.end.tunnels i)) (ids_of l.node.end.tunnels)
