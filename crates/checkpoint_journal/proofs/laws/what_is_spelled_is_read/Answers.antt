use Rattle.checkpoint_journal.proofs.Fresh.{spelling_opens}
use Rattle.checkpoint_journal.proofs.laws.what_is_spelled_is_read.Goals as goal

pub returns : goal.returns
returns c = spelling_opens
