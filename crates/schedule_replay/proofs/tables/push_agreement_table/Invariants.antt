use Rattle.std.proofs.Common.{◌≡◌, ◌++◌, drop}
use Rattle.std.specs.List.{flat_map}
use Rattle.id_table.specs.Ids.{at, ids_of}
use Rattle.world_model.specs.Run.{node_agreements}
use Rattle.schedule_replay.proofs.tables.push_agreement_table.Given as goal

abbrev pub invariant-loop-number : goal.invariant-loop-number
invariant-loop-number l = l.out ++ flat_map (λ n. node_agreements l.nodes.entries n (at l.nodes.entries n)) (drop l.number-index (ids_of l.nodes.entries)) ≡ l.fn.out ++ flat_map (λ n. node_agreements l.nodes.entries n (at l.nodes.entries n)) (ids_of l.nodes.entries)
