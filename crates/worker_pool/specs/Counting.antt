-- How much was put and finished at a moment.
use Rattle.std.specs.Prelude.{◌≡◌, ◌+◌, ◌-◌, ◌<◌, ◌^◌}
use Rattle.worker_pool.specs.declared.pass.PoolPass.{PoolPass}
use Rattle.worker_pool.specs.declared.counts.Counts.{Counts}

abbrev pub counts_of : PoolPass → Counts
counts_of p = record { puts = p.puts; taken = p.tally.taken; collected = p.collected }

abbrev pub IsExact : Counts → Type 0
IsExact c = (c.taken < 2 ^ 64 - 1) × (c.collected < 2 ^ 64 - 1)

-- as many were taken or collected between the two as were put
abbrev pub IsEven : Counts → Counts → Type 0
IsEven a b = IsExact a × IsExact b × (a.taken + a.collected + b.puts ≡ b.taken + b.collected + a.puts)
