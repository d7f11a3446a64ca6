use Rattle.join_laws.proofs.OtherMoves.{refusing_moves_join}
use Rattle.join_laws.proofs.refusing_moves_join.Goals as goal

pub returns : goal.returns
returns c =
    let below = c.laws_below.ensures in
    refusing_moves_join (record {
      keep = below.keep;
      plain = below.plain;
      codecs = below.codecs;
      again = below.again;
      room = below.room;
      classes = below.classes;
    }) below.grow below.births
