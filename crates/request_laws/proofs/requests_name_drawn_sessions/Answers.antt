use Rattle.request_laws.proofs.AskedRuns.{drawn_at_lacs_in_runs}
use Rattle.request_laws.proofs.requests_name_drawn_sessions.Goals as goal

pub returns : goal.returns
returns c = drawn_at_lacs_in_runs c.laws_below.ensures.chains c.laws_below.ensures.facts c.laws_below.ensures.moves
