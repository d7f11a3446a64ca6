use Rattle.line_join_laws.proofs.Started.{starts_join}
use Rattle.line_join_laws.proofs.starts_join.Goals as goal

pub returns : goal.returns
returns c =
    let laws = c.laws_below.ensures in
    let runs = c.laws_of_runs.ensures in
    starts_join runs.starting runs.of_books runs.starts laws.answers laws.closes laws.requests
