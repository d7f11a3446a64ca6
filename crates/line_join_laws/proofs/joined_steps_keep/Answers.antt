use Rattle.line_join_laws.proofs.Stepped.{joined_steps_keep}
use Rattle.line_join_laws.proofs.joined_steps_keep.Goals as goal

pub returns : goal.returns
returns c =
    let laws = c.laws_below.ensures in
    joined_steps_keep laws.once laws.answers laws.closes laws.requests laws.steps c.moves_join.ensures
