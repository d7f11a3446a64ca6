use Rattle.std.proofs.Common.{◌≡◌, ◌++◌, drop}
use Rattle.std.specs.List.{flat_map}
use Rattle.end_model.specs.Contents.{records_of}
use Rattle.step_records.proofs.records.push_moves.Given as goal

abbrev pub invariant-loop-step : goal.invariant-loop-step
invariant-loop-step l = l.kept ++ flat_map (λ m. records_of m) (drop l.step-index l.moves) ≡ l.initial.kept ++ flat_map (λ m. records_of m) l.moves
