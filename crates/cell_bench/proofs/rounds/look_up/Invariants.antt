use Rattle.std.proofs.Common.{◌≤◌}
use Rattle.session_cells.specs.Tokens.{Later}
use Rattle.cell_bench.proofs.rounds.look_up.Given as goal

abbrev pub invariant-loop-turn : goal.invariant-loop-turn
invariant-loop-turn l = Later l.cells l.fn.seen l.seen × (l.tally.up ≤ l.turn)
