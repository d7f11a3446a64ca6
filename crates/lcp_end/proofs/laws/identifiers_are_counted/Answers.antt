use Rattle.lcp_end.proofs.Counting.{counts_ids}
use Rattle.lcp_end.proofs.laws.identifiers_are_counted.Goals as goal

pub returns : goal.returns
returns c = counts_ids
