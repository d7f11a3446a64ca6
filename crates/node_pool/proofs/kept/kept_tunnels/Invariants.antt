use Rattle.node_pool.specs.Keeping.{AreKept}
use Rattle.node_pool.proofs.kept.kept_tunnels.Given as goal

abbrev pub invariant-loop-core : goal.invariant-loop-core
invariant-loop-core l = AreKept l.role l.yielded l.kept.items
