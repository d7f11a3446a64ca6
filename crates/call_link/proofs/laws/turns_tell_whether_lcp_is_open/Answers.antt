use Rattle.call_link.proofs.Telling.{each_tells_lcp}
use Rattle.call_link.proofs.laws.turns_tell_whether_lcp_is_open.Goals as goal

pub returns : goal.returns
returns c = each_tells_lcp c.outputs_tell_open.ensures
