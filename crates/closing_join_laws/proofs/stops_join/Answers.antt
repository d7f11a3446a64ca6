use Rattle.closing_join_laws.proofs.ClosingMoves.{stops_join}
use Rattle.closing_join_laws.proofs.stops_join.Goals as goal

pub returns : goal.returns
returns c =
    let below = c.laws_below.ensures in
    stops_join below.moves below.stop below.codecs below.again below.room below.classes below.epochs below.letters below.grow
