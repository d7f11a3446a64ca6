use Rattle.std.proofs.Common.{◌≡◌}
use Rattle.session_workers.specs.Passes.{made_of, gave_of, got_of}
use Rattle.worker_pool.specs.Pools.{IsMember, HasParts}
use Rattle.worker_pool.proofs.worker.look.Given as goal

abbrev pub invariant-loop : goal.invariant-loop
invariant-loop g l =
    IsMember l.pool l.pass × (gave_of l.pass.pass ≡ gave_of l.fn.pass.pass) × (got_of l.pass.pass ≡ got_of l.fn.pass.pass) × HasParts l.fn.pass l.pass
    × (made_of l.pass.pass ≡ made_of l.fn.pass.pass)
