use Rattle.std.proofs.Common.{◌∙◌}
use Rattle.worker_pool.proofs.Pools.{is_tally, all_done, all_counted}
use Rattle.worker_pool.proofs.run.pool_run.Goals as goal

pub returns-clause-tally : goal.returns-clause-tally
returns-clause-tally g c = let m = c.settle.ensures.of.member in (is_tally c.args.pool.now c.settle.new.pass m, m.once)

pub returns-clause-all : goal.returns-clause-all
returns-clause-all g c =
    λ alone.
    let s = c.settle.ensures in
    let r = c.run_beside.ensures in
    let done = all_done c.settle.new.pass s.of.opener (s.parts.0 ∙ r.parts.0 ∙ alone.0, s.parts.1 ∙ r.parts.1 ∙ alone.1) s.none in
    (done, all_counted c.args.pool.now c.settle.new.pass s.of done)
