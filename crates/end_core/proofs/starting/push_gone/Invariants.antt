use Rattle.std.proofs.Common.{◌≡◌, ◌++◌, drop}
use Rattle.end_model.specs.Starting.{gone_with}
use Rattle.end_core.proofs.starting.push_gone.Given as goal

abbrev pub invariant-loop-call : goal.invariant-loop-call
invariant-loop-call l =
    (l.given.outputs ++ gone_with (drop l.call-index l.calls) ≡ l.initial.given.outputs ++ gone_with l.calls) ×
    (l.given.moves ≡ l.initial.given.moves)
