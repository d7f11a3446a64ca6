use Rattle.std.proofs.Common.{◌≡◌}
use Rattle.pool_turns.specs.Turns.{Draws}
use Rattle.pool_serving.proofs.desk.Desk.give_turns.Given as goal

abbrev pub invariant-loop-turned : goal.invariant-loop-turned
invariant-loop-turned g l = record {
  grows : Draws 0 (g.P.Ports.around l.fn.ports) (g.P.Ports.around l.ports);
  counts : g.P.Ports.counts l.ports ≡ g.P.Ports.counts l.fn.ports;
}
