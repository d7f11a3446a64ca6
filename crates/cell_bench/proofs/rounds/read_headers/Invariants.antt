use Rattle.std.proofs.Common.{◌≡◌}
use Rattle.cell_bench.proofs.rounds.read_headers.Given as goal

abbrev pub invariant-loop-turn : goal.invariant-loop-turn
invariant-loop-turn l = l.count ≡ l.turn
