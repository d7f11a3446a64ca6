use Rattle.control_message.proofs.Walk.{none_seen}
use Rattle.control_message.proofs.checking.Seen.new.Goals as goal

pub returns : goal.returns
returns c = none_seen
