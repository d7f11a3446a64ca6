use Rattle.checkpoint_journal.proofs.Steps.{cut_is_either, cut_is_before, cut_is_after}
use Rattle.checkpoint_journal.proofs.laws.a_crash_leaves_whole_commits.Goals as goal

pub returns-clause-either : goal.returns-clause-either
returns-clause-either c = cut_is_either

pub returns-clause-before : goal.returns-clause-before
returns-clause-before c = cut_is_before

pub returns-clause-after : goal.returns-clause-after
returns-clause-after c = cut_is_after
