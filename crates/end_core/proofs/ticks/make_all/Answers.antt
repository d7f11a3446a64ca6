use Rattle.std.proofs.Common.{◌∙◌}
use Rattle.end_core.proofs.Plans.{made_next}
use Rattle.end_core.proofs.ticks.make_all.Goals as goal

pub loop-id-preserved : goal.loop-id-preserved
loop-id-preserved c =
    let h = made_next c.loop-id.tunnels c.make.new.self (c.in-Some.id, c.in-Some.planned) _ _ c.in-Some.ensures.steps.0 c.make.ensures.made c.make.ensures.others c.loop-id.invariant.4 c.loop-id.invariant.3 in
    (tt, tt, h.0 ∙ c.loop-id.invariant.2, h.1, h.2)
