use Rattle.checkpoint_journal.proofs.Fresh.{commit_spells}
use Rattle.checkpoint_journal.proofs.laws.a_commit_spells_one_more.Goals as goal

pub returns : goal.returns
returns c = commit_spells
