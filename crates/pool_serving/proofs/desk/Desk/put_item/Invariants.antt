use Rattle.std.proofs.Common.{◌≡◌}
use Rattle.session_workers.specs.Passes.{known_of}
use Rattle.worker_pool.specs.Pools.{IsCaller}
use Rattle.pool_turns.specs.Turns.{Draws}
use Rattle.pool_serving.specs.Handing.{InStep}
use Rattle.pool_serving.proofs.desk.Desk.put_item.Given as goal

abbrev pub invariant-loop : goal.invariant-loop
invariant-loop g l = record {
  of : IsCaller l.pool l.pass;
  bytes : l.waiting ≡ l.fn.bytes;
  step : InStep l.fn.self l.self l.fn.pass l.pass;
  known : known_of l.pass.pass ≡ known_of l.fn.pass.pass;
  grows : Draws 0 (g.P.Ports.around l.fn.ports) (g.P.Ports.around l.ports);
  counts : g.P.Ports.counts l.ports ≡ g.P.Ports.counts l.fn.ports;
}
