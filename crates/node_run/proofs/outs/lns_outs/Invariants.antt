use Rattle.std.proofs.Common.{◌≡◌, ◌++◌, map}
use Rattle.std.specs.Vec.Iter.{into_iter_items}
use Rattle.node_run.specs.Outs.{lns_out}
use Rattle.node_run.proofs.outs.lns_outs.Given as goal

abbrev pub invariant-loop-out : goal.invariant-loop-out
invariant-loop-out l =
    (goal.iterator-loop-out).can_next l.out-iterator ×
    (goal.iterator-loop-out).is_finite l.out-iterator ×
    (l.outs ++ map lns_out (into_iter_items l.out-iterator) ≡ map lns_out l.fn.given.outputs)
