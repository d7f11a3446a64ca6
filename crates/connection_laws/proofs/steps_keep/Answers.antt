use Rattle.connection_laws.proofs.Moves.{moves_keep}
use Rattle.connection_laws.proofs.Said.{next_is_heard, plain_is_heard}
use Rattle.connection_laws.proofs.AnyHeard.{letters_are_heard, openings_are_acceptable, faults_are_of_requests, none_is_faulty_in_tunnel}
use Rattle.connection_laws.proofs.Plainly.{stop_is_heard}
use Rattle.connection_laws.proofs.Closing.{closings_are_known}
use Rattle.connection_laws.proofs.Declining.{declines_are_of_openings}
use Rattle.connection_laws.proofs.Runs.{begins}
use Rattle.connection_laws.proofs.Laws.{lines_of_runs}
use Rattle.connection_laws.proofs.steps_keep.Goals as goal

pub returns-clause-moves : goal.returns-clause-moves
returns-clause-moves c = moves_keep c.laws_below.ensures.codecs c.laws_below.ensures.classes

pub returns-clause-heard : goal.returns-clause-heard
returns-clause-heard c = next_is_heard c.laws_below.ensures.codecs c.laws_below.ensures.classes

pub returns-clause-plain : goal.returns-clause-plain
returns-clause-plain c = plain_is_heard c.laws_below.ensures.codecs c.laws_below.ensures.classes

pub returns-clause-letters : goal.returns-clause-letters
returns-clause-letters c = letters_are_heard c.laws_below.ensures.codecs

pub returns-clause-stop : goal.returns-clause-stop
returns-clause-stop c = stop_is_heard c.laws_below.ensures.codecs c.laws_below.ensures.classes

pub returns-clause-known : goal.returns-clause-known
returns-clause-known c = closings_are_known c.laws_below.ensures.codecs

pub returns-clause-openings : goal.returns-clause-openings
returns-clause-openings c = declines_are_of_openings c.laws_below.ensures.codecs

pub returns-clause-acceptable : goal.returns-clause-acceptable
returns-clause-acceptable c = openings_are_acceptable c.laws_below.ensures.codecs

pub returns-clause-faulty : goal.returns-clause-faulty
returns-clause-faulty c = faults_are_of_requests c.laws_below.ensures.codecs

pub returns-clause-sound_in_tunnel : goal.returns-clause-sound_in_tunnel
returns-clause-sound_in_tunnel c = none_is_faulty_in_tunnel c.laws_below.ensures.codecs

pub returns-clause-lines : goal.returns-clause-lines
returns-clause-lines c = let below = c.laws_below.ensures in lines_of_runs below.codecs below.chains below.starts below.reads below.classes

pub returns-clause-begins : goal.returns-clause-begins
returns-clause-begins c = begins
