use Rattle.std.proofs.Common.{◌≡◌, drop}
use Rattle.end_model.specs.Starting.{keeps_calls}
use Rattle.tunnel_recovery.proofs.restoring.keep_calls.Given as goal

abbrev pub invariant-loop-call : goal.invariant-loop-call
invariant-loop-call l = keeps_calls l.role (drop l.call-index l.calls) l.turn ≡ keeps_calls l.role l.calls l.fn.turn
