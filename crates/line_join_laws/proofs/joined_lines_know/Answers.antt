use Rattle.line_join_laws.proofs.Chain.{joined_lines_know}
use Rattle.line_join_laws.proofs.joined_lines_know.Goals as goal

pub returns : goal.returns
returns c =
    let laws = c.laws_below.ensures in
    joined_lines_know laws.once laws.answers laws.closes laws.requests c.moves_join.ensures
