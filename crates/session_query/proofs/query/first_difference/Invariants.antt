use Rattle.std.proofs.Common.{◌≤◌, length}
use Rattle.session_query.proofs.Differences.{Rests}
use Rattle.session_query.proofs.query.first_difference.Given as goal

abbrev pub invariant-loop-at : goal.invariant-loop-at
invariant-loop-at l = Rests l.asked l.answers l.at × (l.at ≤ length l.asked)
