use Rattle.request_laws.proofs.BornRuns.{drawn_for_requests_in_runs}
use Rattle.request_laws.proofs.sessions_of_an_lns_are_asked_for.Goals as goal

pub returns : goal.returns
returns c = drawn_for_requests_in_runs c.laws_below.ensures.chains c.laws_below.ensures.facts c.laws_below.ensures.moves
