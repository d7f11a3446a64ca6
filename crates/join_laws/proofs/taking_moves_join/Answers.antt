use Rattle.join_laws.proofs.OtherMoves.{taking_moves_join}
use Rattle.join_laws.proofs.taking_moves_join.Goals as goal

pub returns : goal.returns
returns c =
    let below = c.laws_below.ensures in
    taking_moves_join (record {
      keep = below.keep;
      plain = below.plain;
      codecs = below.codecs;
      again = below.again;
      room = below.room;
      classes = below.classes;
    }) below.grow below.births below.letters
