use Rattle.line_join_laws.proofs.Stopping.{joined_steps_stop}
use Rattle.line_join_laws.proofs.joined_steps_stop.Goals as goal

pub returns : goal.returns
returns c =
    let laws = c.laws_below.ensures in
    joined_steps_stop laws.answers laws.closes laws.requests c.heard_moves_stand.ensures c.stops_amid_lists.ensures c.moves_join.ensures
