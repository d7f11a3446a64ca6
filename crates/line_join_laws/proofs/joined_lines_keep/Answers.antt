use Rattle.line_join_laws.proofs.EachLine.{joined_lines_keep}
use Rattle.line_join_laws.proofs.joined_lines_keep.Goals as goal

pub returns : goal.returns
returns c =
    let laws = c.laws_below.ensures in
    joined_lines_keep laws.once laws.answers laws.closes laws.requests laws.steps laws.lines laws.resting c.starts_join.ensures c.moves_join.ensures
