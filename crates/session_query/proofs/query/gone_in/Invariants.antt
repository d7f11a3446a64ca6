use Rattle.std.proofs.Common.{◌≡◌, ◌++◌, drop}
use Rattle.session_query.specs.Queries.{gone_in}
use Rattle.session_query.proofs.query.gone_in.Given as goal

abbrev pub invariant-loop-at : goal.invariant-loop-at
invariant-loop-at l = l.gone ++ gone_in (drop l.at l.asked) (drop l.at l.answers) ≡ gone_in l.asked l.answers
