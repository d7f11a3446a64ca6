use Rattle.std.proofs.Common.{◌≡◌, ◌+◌, length}
use Rattle.session_workers.specs.Passes.{known_of}
use Rattle.worker_pool.specs.Pools.{IsCaller, HasParts, ends_of}
use Rattle.worker_pool.proofs.run.attend.Given as goal

abbrev pub invariant-loop : goal.invariant-loop
invariant-loop g l =
    IsCaller l.pool l.pass × HasParts l.fn.pass l.pass
    × (g.V.Serving.given l.serving + ends_of l.fn.pass ≡ g.V.Serving.given l.fn.serving + ends_of l.pass)
    × (g.V.Serving.puts l.serving + length (known_of l.fn.pass.pass) ≡ g.V.Serving.puts l.fn.serving + length (known_of l.pass.pass))
    × g.V.Serving.serves l.fn.serving l.serving
