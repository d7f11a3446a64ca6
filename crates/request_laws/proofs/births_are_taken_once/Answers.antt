use Rattle.request_laws.proofs.BornRuns.{born_in_runs}
use Rattle.request_laws.proofs.births_are_taken_once.Goals as goal

pub returns : goal.returns
returns c = let below = c.laws_below.ensures in born_in_runs below.chains below.facts below.moves below.births below.connections
