use Rattle.std.proofs.Common.{◌≡◌, drop}
use Rattle.end_model.specs.Starting.{opens_links}
use Rattle.tunnel_recovery.proofs.restoring.open_links.Given as goal

abbrev pub invariant-loop-call : goal.invariant-loop-call
invariant-loop-call l = opens_links l.role (drop l.call-index l.calls) l.turn ≡ opens_links l.role l.calls l.fn.turn
