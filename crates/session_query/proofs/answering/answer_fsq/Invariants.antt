use Rattle.std.proofs.Common.{◌≡◌, ◌++◌, drop}
use Rattle.session_query.specs.Queries.{answers_to}
use Rattle.session_query.proofs.answering.answer_fsq.Given as goal

abbrev pub invariant-loop-pair : goal.invariant-loop-pair
invariant-loop-pair l = l.answers ++ answers_to l.here (drop l.pair-index l.asked) ≡ answers_to l.here l.asked
