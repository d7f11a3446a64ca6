use Rattle.std.proofs.Common.{refl, ◌∙◌}
use Rattle.pool_turns.proofs.Drawing.{draws_none, draws_then}
use Rattle.pool_serving.proofs.Passes.{same_counts, step_none, step_then}
use Rattle.pool_serving.proofs.desk.Desk.put_item.Goals as goal

pub loop-init : goal.loop-init
loop-init g c = record { of = c.requires; bytes = refl; step = step_none _ _; known = refl; grows = draws_none _; counts = refl }

pub loop-preserved : goal.loop-preserved
loop-preserved g c = record {
  of = c.work.ensures.of;
  bytes = c.in-Err.ensures.back ∙ c.loop.invariant.bytes;
  step = step_then _ _ _ _ _ _ (step_then _ _ _ _ _ _ c.loop.invariant.step c.try_put.ensures.step) c.work.ensures.step;
  known = c.work.ensures.known ∙ (c.in-Err.ensures.err ∙ c.loop.invariant.known);
  grows = draws_then 0 0 _ _ _ c.loop.invariant.grows c.work.ensures.grows;
  counts = same_counts _ _ c.in_ok-work.ensures.cause ∙ c.loop.invariant.counts;
}

pub returns-in_err-work-clause-step : goal.returns-in_err-work-clause-step
returns-in_err-work-clause-step g c = step_then _ _ _ _ _ _ (step_then _ _ _ _ _ _ c.loop.invariant.step c.try_put.ensures.step) c.work.ensures.step

pub returns-in_err-work-clause-grows : goal.returns-in_err-work-clause-grows
returns-in_err-work-clause-grows g c = draws_then 0 0 _ _ _ c.loop.invariant.grows c.work.ensures.grows
