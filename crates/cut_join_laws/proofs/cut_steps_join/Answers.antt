use Rattle.cut_join_laws.proofs.CutStands.{cut_steps_join}
use Rattle.cut_join_laws.proofs.cut_steps_join.Goals as goal

pub returns : goal.returns
returns c =
    let laws = c.laws_below.ensures in
    cut_steps_join (record {
      once = laws.once;
      births = laws.births;
      answers = laws.answers;
      closes = laws.closes;
      requests = laws.requests;
      moves = laws.moves;
      stand = laws.stand;
      stops = laws.stops;
      parts = laws.parts;
    }) laws.fallen laws.booked
