use Rattle.std.proofs.Common.{List, ◌≡◌, length}
use Rattle.port_events.specs.Feeding.{given}
use Rattle.port_turn.specs.Turns.{Turn, waits, asked}
use Rattle.port_turn.specs.Runs.{node, Runs}
use Rattle.port_turn.proofs.serving.serve.Given as goal

abbrev pub invariant-loop : goal.invariant-loop
invariant-loop g l = record {
  ready : g.S.EndStep.ready l.end;
  runs : (ts : List Turn) × (length ts ≡ l.counter) × Runs g.S.EndStep.steps ts
      (node (g.R.Rng.stream l.fn.rng) (g.C.Clock.gives l.fn.clock) l.fn.end (given (g.L.Link.given l.fn.link) (g.E.Ether.given l.fn.ether) (g.U.Uplink.given l.fn.up)) (waits (g.L.Link.waiting l.fn.link) (g.E.Ether.waiting l.fn.ether) (g.U.Uplink.waiting l.fn.up)) (asked (g.L.Link.asked l.fn.link) (g.E.Ether.asked l.fn.ether) (g.U.Uplink.asked l.fn.up)))
      (node (g.R.Rng.stream l.rng) (g.C.Clock.gives l.clock) l.end (given (g.L.Link.given l.link) (g.E.Ether.given l.ether) (g.U.Uplink.given l.up)) (waits (g.L.Link.waiting l.link) (g.E.Ether.waiting l.ether) (g.U.Uplink.waiting l.up)) (asked (g.L.Link.asked l.link) (g.E.Ether.asked l.ether) (g.U.Uplink.asked l.up)));
  link_faults : g.L.Link.faults l.link ≡ g.L.Link.faults l.fn.link;
  ether_faults : g.E.Ether.faults l.ether ≡ g.E.Ether.faults l.fn.ether;
  up_faults : g.U.Uplink.faults l.up ≡ g.U.Uplink.faults l.fn.up;
}
