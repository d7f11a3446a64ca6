use Rattle.request_laws.proofs.AskedRuns.{asked_in_runs}
use Rattle.request_laws.proofs.calls_are_asked_for_once.Goals as goal

pub returns : goal.returns
returns c = asked_in_runs c.laws_below.ensures.chains c.laws_below.ensures.facts c.laws_below.ensures.moves
