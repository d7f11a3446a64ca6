use Rattle.std.proofs.Common.{ℕ, List, get_or, subst}
use Rattle.std.proofs.lemmas.List.{drop_more, drop_all}
use Rattle.tunnel_timers.specs.Due.{tunnel_due}
use Rattle.tunnel_timers.specs.Bounds.{BoundsRest, rest_bounds, none_bounds}
use Rattle.tunnel_table.specs.Tunnels.{tunnels_of}
use Rattle.tunnel_table.proofs.table.earliest_due.Goals as goal

pub loop-id-preserved : goal.loop-id-preserved
loop-id-preserved c =
    let ids = c.args.ids.now in
    rest_bounds (λ t. tunnel_due t.1) (tunnels_of c.args.table.now.entries) c.loop-id.due c.due_at.result c.min-due.result (get_or ids c.loop-id.id-index 0) _ ids c.min-due.ensures c.due_at.ensures
    (subst (λ (is : List ℕ). BoundsRest (λ t. tunnel_due t.1) (tunnels_of c.args.table.now.entries) c.loop-id.due is ids) (drop_more ids c.loop-id.id-index 0 c.loop-id-test.true) c.loop-id.invariant)

pub returns : goal.returns
returns c =
    none_bounds (λ t. tunnel_due t.1) (tunnels_of c.args.table.now.entries) c.loop-id.due c.args.ids.now
    (subst (λ (is : List ℕ). BoundsRest (λ t. tunnel_due t.1) (tunnels_of c.args.table.now.entries) c.loop-id.due is c.args.ids.now) (drop_all c.loop-id.id-index c.args.ids.now c.loop-id-test.false) c.loop-id.invariant)
