use Rattle.std.proofs.Common.{◌≡◌, ◌++◌, drop}
use Rattle.std.specs.List.{flat_map}
use Rattle.id_table.specs.Ids.{at, ids_of}
use Rattle.world_model.specs.Run.{call_line}
use Rattle.schedule_replay.proofs.tables.push_call_table.Given as goal

abbrev pub invariant-loop-session : goal.invariant-loop-session
invariant-loop-session l = l.out ++ flat_map (λ s. call_line l.number l.tunnel l.births.entries s (at l.calls.entries s)) (drop l.session-index (ids_of l.calls.entries)) ≡ l.fn.out ++ flat_map (λ s. call_line l.number l.tunnel l.births.entries s (at l.calls.entries s)) (ids_of l.calls.entries)
