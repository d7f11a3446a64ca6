use Rattle.connection_laws.proofs.Laws.{acks_of_runs}
use Rattle.connection_laws.proofs.acks_are_true.Goals as goal

pub returns : goal.returns
returns c = let below = c.laws_below.ensures in acks_of_runs below.codecs below.chains below.starts below.reads below.classes
