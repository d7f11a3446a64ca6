use Rattle.call_link.proofs.Ending.{each_ends_by_lcp, each_end_is_told}
use Rattle.call_link.proofs.laws.ends_are_of_lcp.Goals as goal

pub returns-clause-only : goal.returns-clause-only
returns-clause-only c = each_ends_by_lcp

pub returns-clause-always : goal.returns-clause-always
returns-clause-always c = each_end_is_told
