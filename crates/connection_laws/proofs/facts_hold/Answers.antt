use Rattle.connection_laws.proofs.Laws.{facts_of_runs}
use Rattle.connection_laws.proofs.facts_hold.Goals as goal

pub returns : goal.returns
returns c = let below = c.laws_below.ensures in facts_of_runs below.codecs below.chains below.starts below.reads below.classes
