use Rattle.std.proofs.Common.{◌≡◌, take}
use Rattle.held_ports.specs.Around.{Gives}
use Rattle.pool_giving.specs.Hosts.{turn_outs}
use Rattle.pool_giving.proofs.giving.give_turn.Given as goal

abbrev pub invariant-loop-out : goal.invariant-loop-out
invariant-loop-out g l = record {
  gives : Gives (turn_outs l.hosts (take l.out-index l.given)) (g.P.Ports.around l.fn.ports) (g.P.Ports.around l.ports);
  counts : g.P.Ports.counts l.ports ≡ g.P.Ports.counts l.fn.ports;
}
