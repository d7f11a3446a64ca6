-- the goals are answered here so that a wrong body is refused without a second search
use Rattle.std.proofs.Common.{rules}
use Rattle.checkpoint_journal.proofs.journal.Journal.stop_at_fault.Goals as goal

pub returns-clause-state : goal.returns-clause-state
returns-clause-state c = search rules

pub returns-clause-told : goal.returns-clause-told
returns-clause-told c = search rules
