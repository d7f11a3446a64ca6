use Rattle.checkpoint_journal.proofs.Compactions.{compaction_is_either, compaction_is_old, compaction_is_new}
use Rattle.checkpoint_journal.proofs.laws.a_crash_leaves_one_list.Goals as goal

pub returns-clause-either : goal.returns-clause-either
returns-clause-either c = compaction_is_either

pub returns-clause-old : goal.returns-clause-old
returns-clause-old c = compaction_is_old

pub returns-clause-fresh : goal.returns-clause-fresh
returns-clause-fresh c = compaction_is_new
