use Rattle.line_join_laws.proofs.EachMove.{moves_join}
use Rattle.line_join_laws.proofs.moves_join.Goals as goal

pub returns : goal.returns
returns c =
    let laws = c.laws_of_moves.ensures in
    moves_join (record {
      still = laws.still;
      giving = laws.giving;
      opening = laws.opening;
      ending = laws.ending;
      call = laws.call;
      taking = laws.taking;
      recovery = laws.recovery;
      refusing = laws.refusing;
      resets = laws.resets;
      queries = laws.queries;
      declines = laws.declines;
      stops = laws.stops;
    })
