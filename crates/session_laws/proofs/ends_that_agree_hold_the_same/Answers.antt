use Rattle.session_laws.proofs.Keeps.{Laws}
use Rattle.session_laws.proofs.Moves.{moves_follow}
use Rattle.session_laws.proofs.Sessions.{sessions_of_runs}
use Rattle.session_laws.proofs.ends_that_agree_hold_the_same.Goals as goal

pub returns : goal.returns
returns c =
    let below = c.laws_below.ensures in
    let laws : Laws = record {
      heard = below.heard;
      plain = below.plain;
      letters = below.letters;
      stop = below.stop;
      known = below.known;
      openings = below.openings;
      acceptable = below.acceptable;
      faulty = below.faulty;
      births = below.births;
      coverage = below.coverage;
    } in
    sessions_of_runs laws below.moves (moves_follow laws) below.lines below.begins
