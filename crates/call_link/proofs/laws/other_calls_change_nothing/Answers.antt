use Rattle.call_link.proofs.Staying.{each_stays_as_it_was}
use Rattle.call_link.proofs.laws.other_calls_change_nothing.Goals as goal

pub returns : goal.returns
returns c = each_stays_as_it_was
