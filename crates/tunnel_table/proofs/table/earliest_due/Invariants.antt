use Rattle.std.proofs.Common.{drop}
use Rattle.tunnel_timers.specs.Due.{tunnel_due}
use Rattle.tunnel_timers.specs.Bounds.{BoundsRest}
use Rattle.tunnel_table.specs.Tunnels.{tunnels_of}
use Rattle.tunnel_table.proofs.table.earliest_due.Given as goal

abbrev pub invariant-loop-id : goal.invariant-loop-id
invariant-loop-id l = BoundsRest (λ t. tunnel_due t.1) (tunnels_of l.table.entries) l.due (drop l.id-index l.ids) l.ids
