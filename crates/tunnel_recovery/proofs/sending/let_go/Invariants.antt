use Rattle.std.proofs.Common.{◌≡◌}
use Rattle.end_model.specs.Recovering.{goes}
use Rattle.tunnel_recovery.specs.Going.{goes_up_to}
use Rattle.tunnel_recovery.proofs.sending.let_go.Given as goal

abbrev pub invariant-loop-most : goal.invariant-loop-most
invariant-loop-most l = goes_up_to l.most l.recovery l.turn ≡ goes l.fn.recovery l.fn.turn

abbrev pub decreases-loop-most : goal.decreases-loop-most
decreases-loop-most l = l.most
