use Rattle.call_link.proofs.Ending.{each_ends_for_good}
use Rattle.call_link.proofs.laws.ended_links_stay_still.Goals as goal

pub returns : goal.returns
returns c = each_ends_for_good
