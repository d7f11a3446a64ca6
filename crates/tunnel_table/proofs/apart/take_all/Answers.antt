use Rattle.std.proofs.Common.{◌∙◌}
use Rattle.tunnel_table.proofs.Taking.{next_taken, all_taken}
use Rattle.tunnel_table.proofs.apart.take_all.Goals as goal

pub loop-id-preserved : goal.loop-id-preserved
loop-id-preserved g c =
    let h = next_taken c.loop-id.table.entries c.take_out.new.table.entries c.loop-id.taken c.take_out.new.taken c.args.ids.now c.loop-id.id-index c.loop-id-test.true c.loop-id.invariant.0 c.take_out.ensures.left c.in_ok-take_out.ensures.taken in
    (h.0, h.1 ∙ c.loop-id.invariant.1)
