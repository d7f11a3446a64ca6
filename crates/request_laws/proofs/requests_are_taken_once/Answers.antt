use Rattle.request_laws.proofs.Made.{made_in_runs}
use Rattle.request_laws.proofs.requests_are_taken_once.Goals as goal

pub returns : goal.returns
returns c = made_in_runs c.laws_below.ensures.chains c.laws_below.ensures.facts c.laws_below.ensures.moves c.laws_below.ensures.connections
