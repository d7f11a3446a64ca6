use Rattle.std.proofs.Common.{refl, ◌∙◌}
use Rattle.pool_turns.proofs.Drawing.{draws_none, draws_then}
use Rattle.pool_serving.proofs.Passes.{same_counts, step_none, step_then}
use Rattle.pool_serving.proofs.desk.Desk.collect_rest.Goals as goal

pub loop-init : goal.loop-init
loop-init g c = record { of = c.requires; step = step_none _ _; known = refl; grows = draws_none _; counts = refl }

pub loop-preserved : goal.loop-preserved
loop-preserved g c = record {
  of = c.collect_one.ensures.of;
  step = step_then _ _ _ _ _ _ c.loop.invariant.step c.collect_one.ensures.step;
  known = c.collect_one.ensures.known ∙ c.loop.invariant.known;
  grows = draws_then 0 0 _ _ _ c.loop.invariant.grows c.collect_one.ensures.grows;
  counts = same_counts _ _ c.in_ok-collect_one.ensures.cause ∙ c.loop.invariant.counts;
}

pub returns-in_err-collect_one-clause-grows : goal.returns-in_err-collect_one-clause-grows
returns-in_err-collect_one-clause-grows g c = draws_then 0 0 _ _ _ c.loop.invariant.grows c.collect_one.ensures.grows
