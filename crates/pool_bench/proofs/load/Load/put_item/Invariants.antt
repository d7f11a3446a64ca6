use Rattle.std.proofs.Common.{◌≡◌, ◌+◌, length}
use Rattle.session_cells.specs.Tokens.{log_of, IsOf}
use Rattle.session_workers.specs.Passes.{known_of, gave_of}
use Rattle.worker_pool.specs.Pools.{IsCaller, HasParts, ends_of}
use Rattle.pool_bench.proofs.load.Load.put_item.Given as goal

abbrev pub invariant-loop : goal.invariant-loop
invariant-loop g l =
    IsCaller l.pool l.pass × IsOf l.pool.shared.locked.cells l.waiting.seen × (log_of l.waiting.seen ≡ log_of l.pass.pass.seen)
    × (gave_of l.pass.pass ≡ gave_of l.fn.pass.pass) × HasParts l.fn.pass l.pass
    × (l.self.given + ends_of l.fn.pass ≡ l.fn.self.given + ends_of l.pass)
    × (l.self.puts + length (known_of l.fn.pass.pass) ≡ l.fn.self.puts + length (known_of l.pass.pass))
