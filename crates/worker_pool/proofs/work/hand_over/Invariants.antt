use Rattle.std.proofs.Common.{◌≡◌}
use Rattle.session_workers.specs.Passes.{items_of, finished_of}
use Rattle.worker_pool.specs.Pools.{IsMember}
use Rattle.worker_pool.proofs.work.hand_over.Given as goal

abbrev pub invariant-loop : goal.invariant-loop
invariant-loop g l =
    IsMember l.pool l.pass × (items_of l.pass.pass ≡ items_of l.fn.pass.pass) × (finished_of l.pass.pass ≡ finished_of l.fn.pass.pass)
    × (l.waiting ≡ l.fn.finished)
