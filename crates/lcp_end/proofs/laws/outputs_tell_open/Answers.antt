use Rattle.lcp_end.proofs.Opening.{each_tells_open}
use Rattle.lcp_end.proofs.laws.outputs_tell_open.Goals as goal

pub returns : goal.returns
returns c = each_tells_open
