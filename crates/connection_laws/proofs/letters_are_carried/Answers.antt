use Rattle.connection_laws.proofs.Laws.{letters_of_runs}
use Rattle.connection_laws.proofs.letters_are_carried.Goals as goal

pub returns : goal.returns
returns c = let below = c.laws_below.ensures in letters_of_runs below.codecs below.chains below.starts below.reads below.classes
