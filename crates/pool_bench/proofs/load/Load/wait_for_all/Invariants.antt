use Rattle.std.proofs.Common.{◌≡◌, ◌+◌}
use Rattle.session_workers.specs.Passes.{known_of, gave_of}
use Rattle.worker_pool.specs.Pools.{IsCaller, HasParts, ends_of}
use Rattle.pool_bench.proofs.load.Load.wait_for_all.Given as goal

abbrev pub invariant-loop : goal.invariant-loop
invariant-loop g l =
    IsCaller l.pool l.pass × (l.pass.pass.seen ≡ l.fn.pass.pass.seen) × (known_of l.pass.pass ≡ known_of l.fn.pass.pass)
    × (gave_of l.pass.pass ≡ gave_of l.fn.pass.pass) × HasParts l.fn.pass l.pass
    × (l.self.given + ends_of l.fn.pass ≡ l.fn.self.given + ends_of l.pass) × (l.self.puts ≡ l.fn.self.puts)
