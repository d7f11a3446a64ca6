use Rattle.std.proofs.Common.{◌≡◌, ◌++◌, drop, flat_map}
use Rattle.wire_base.specs.declared.pair.Pair.{Pair}
use Rattle.node_pool.specs.Keeping.{cell_looks}
use Rattle.node_pool.proofs.kept.looks_in.Given as goal

abbrev pub invariant-loop-pair : goal.invariant-loop-pair
invariant-loop-pair l =
    l.changes ++ flat_map (λ (p : Pair). cell_looks l.role l.tunnel l.peer p.sender) (drop l.pair-index l.sessions)
    ≡ flat_map (λ (p : Pair). cell_looks l.role l.tunnel l.peer p.sender) l.sessions
