use Rattle.lcp_end.proofs.Ignoring.{ignores}
use Rattle.lcp_end.proofs.laws.other_answers_change_nothing.Goals as goal

pub returns : goal.returns
returns c = ignores
