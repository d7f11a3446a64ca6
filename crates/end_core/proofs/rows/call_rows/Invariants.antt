use Rattle.std.proofs.Common.{◌≡◌, ◌++◌, drop}
use Rattle.std.specs.List.{flat_map}
use Rattle.id_table.specs.Ids.{at, ids_of}
use Rattle.end_core.specs.Rows.{calls_at}
use Rattle.end_core.proofs.rows.call_rows.Given as goal

abbrev pub invariant-loop-session : goal.invariant-loop-session
invariant-loop-session l = l.rows ++ flat_map (λ s. calls_at s (at l.calls.entries s)) (drop l.session-index (ids_of l.calls.entries)) ≡ flat_map (λ s. calls_at s (at l.calls.entries s)) (ids_of l.calls.entries)
