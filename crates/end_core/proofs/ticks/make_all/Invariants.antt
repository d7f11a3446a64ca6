use Rattle.std.proofs.Common.{◌≡◌}
use Rattle.std.specs.List.Sorted.{IsStrictlySortedBy}
use Rattle.std.specs.Ordering.{nat_cmp}
use Rattle.std.specs.Vec.Iter.{into_iter_items}
use Rattle.id_table.specs.Ids.{ids_of}
use Rattle.tunnel_table.specs.Tunnels.{tunnels_of}
use Rattle.end_core.specs.Ticking.{HavePlaces, after_plans}
use Rattle.end_core.proofs.ticks.make_all.Given as goal

abbrev pub invariant-loop-id : goal.invariant-loop-id
invariant-loop-id l =
    (goal.iterator-loop-id).can_next l.id-iterator ×
    (goal.iterator-loop-id).is_finite l.id-iterator ×
    (after_plans (into_iter_items l.id-iterator) (tunnels_of l.tunnels.entries) ≡ after_plans l.fn.plans (tunnels_of l.fn.tunnels.entries)) ×
    HavePlaces l.tunnels (into_iter_items l.id-iterator) ×
    IsStrictlySortedBy nat_cmp (ids_of (into_iter_items l.id-iterator))
