use Rattle.connection_laws.proofs.Laws.{numbers_of_runs}
use Rattle.connection_laws.proofs.numbers_are_read.Goals as goal

pub returns : goal.returns
returns c = let below = c.laws_below.ensures in numbers_of_runs below.codecs below.chains below.starts below.reads below.classes
