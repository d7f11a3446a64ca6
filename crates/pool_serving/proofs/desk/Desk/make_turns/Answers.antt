use Rattle.std.proofs.Common.{refl, ◌+◌, ◌∙◌, arith}
use Rattle.pool_serving.proofs.Answering.{err_always}
use Rattle.pool_serving.proofs.Passes.{same_counts, step_then}
use Rattle.pool_serving.proofs.Turns.{one_more, broke}
use Rattle.pool_serving.proofs.desk.Desk.make_turns.Goals as goal

pub loop-preserved : goal.loop-preserved
loop-preserved g c = let a = g.P.Ports.around in
    let h = c.in_ok-turn.ensures.ok in
    record {
      of = c.turn.ensures.of;
      step = step_then _ _ _ _ _ _ c.loop.invariant.step c.turn.ensures.step;
      runs = one_more c.loop.counter (c.loop.counter + 1) h.0 h.1 c.args.pass.now c.loop.pass c.turn.new.pass (a c.args.ports.now) (a c.loop.ports) (a c.turn.new.ports) refl c.loop.invariant.runs h.2 h.3;
      counts = same_counts _ _ c.in_ok-turn.ensures.cause ∙ c.loop.invariant.counts;
    }

pub returns-in_err-turn-clause-err : goal.returns-in_err-turn-clause-err
returns-in_err-turn-clause-err g c = let a = g.P.Ports.around in
    let h = c.in_err-turn.ensures.err in
    err_always c.from_residual.result (broke c.loop.counter c.args.turns h.0 c.args.pass.now c.loop.pass c.turn.new.pass (a c.args.ports.now) (a c.loop.ports) (a c.turn.new.ports) (omega arith) c.loop.invariant.runs h.1 h.2)

pub returns-in_err-turn-clause-step : goal.returns-in_err-turn-clause-step
returns-in_err-turn-clause-step g c = step_then _ _ _ _ _ _ c.loop.invariant.step c.turn.ensures.step
