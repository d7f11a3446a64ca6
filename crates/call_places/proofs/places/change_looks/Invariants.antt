use Rattle.std.proofs.Common.{◌≡◌, drop}
use Rattle.end_model.specs.End.{with_looks}
use Rattle.call_places.proofs.places.change_looks.Given as goal

abbrev pub invariant-loop-change : goal.invariant-loop-change
invariant-loop-change l = with_looks (drop l.change-index l.changes) l.places.entries ≡ with_looks l.changes l.fn.places.entries
