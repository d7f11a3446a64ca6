-- the goal is answered here so that a wrong body is refused without a second search
use Rattle.std.proofs.Common.{rules}
use Rattle.checkpoint_journal.proofs.journal.Journal.halt.Goals as goal

pub returns : goal.returns
returns c = search rules
