use Rattle.std.proofs.Common.{List, ◌≡◌, ◌++◌, length}
use Rattle.worker_pool.specs.Pools.{IsCaller}
use Rattle.port_turn.specs.Turns.{Turn}
use Rattle.pool_turns.specs.Turns.{Put, Runs}
use Rattle.pool_serving.specs.Handing.{InStep, puts_in}
use Rattle.pool_serving.proofs.desk.Desk.make_turns.Given as goal

abbrev pub invariant-loop : goal.invariant-loop
invariant-loop g l = record {
  of : IsCaller l.pool l.pass;
  step : InStep l.fn.self l.self l.fn.pass l.pass;
  runs : (ts : List Turn) × (ps : List Put) × (length ts ≡ l.counter) × Runs ts ps (g.P.Ports.around l.fn.ports) (g.P.Ports.around l.ports) × (puts_in l.pass ≡ puts_in l.fn.pass ++ ps);
  counts : g.P.Ports.counts l.ports ≡ g.P.Ports.counts l.fn.ports;
}
