use Rattle.std.proofs.Common.{◌∙◌}
use Rattle.pool_turns.proofs.Drawing.{draws_then, gives_draws}
use Rattle.pool_serving.proofs.Passes.{same_counts}
use Rattle.pool_serving.proofs.desk.Desk.give_turns.Goals as goal

pub returns-in_err-give_turn-clause-grows : goal.returns-in_err-give_turn-clause-grows
returns-in_err-give_turn-clause-grows g c = draws_then 0 0 _ _ _ c.loop-turned.invariant.grows (gives_draws _ _ _ c.in_err-give_turn.ensures.err.gives)

pub loop-turned-preserved : goal.loop-turned-preserved
loop-turned-preserved g c = record {
  grows = draws_then 0 0 _ _ _ c.loop-turned.invariant.grows (gives_draws _ _ _ c.in_ok-give_turn.ensures.ok);
  counts = same_counts _ _ c.in_ok-give_turn.ensures.cause ∙ c.loop-turned.invariant.counts;
}
