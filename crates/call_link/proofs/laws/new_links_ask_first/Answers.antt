use Rattle.call_link.proofs.Beginning.{each_begins_by_asking}
use Rattle.call_link.proofs.laws.new_links_ask_first.Goals as goal

pub returns : goal.returns
returns c = each_begins_by_asking
