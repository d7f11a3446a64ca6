use Rattle.std.proofs.Common.{◌≡◌, ◌+◌}
use Rattle.session_workers.specs.Passes.{known_of}
use Rattle.worker_pool.specs.Pools.{IsCaller, HasParts, ends_of}
use Rattle.worker_pool.proofs.run.settle.Given as goal

abbrev pub invariant-loop : goal.invariant-loop
invariant-loop g l =
    IsCaller l.pool l.pass × HasParts l.fn.pass l.pass × (known_of l.pass.pass ≡ known_of l.fn.pass.pass)
    × (g.V.Serving.given l.serving + ends_of l.fn.pass ≡ g.V.Serving.given l.fn.serving + ends_of l.pass)
    × (g.V.Serving.puts l.serving ≡ g.V.Serving.puts l.fn.serving)
    × ((s : g.row.V.Denot) → g.V.Serving.serves s l.fn.serving → g.V.Serving.serves s l.serving)
