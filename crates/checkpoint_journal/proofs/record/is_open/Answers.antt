-- the goal is answered here so that a wrong body is refused without a second search
use Rattle.std.proofs.Common.{rules}
use Rattle.checkpoint_journal.proofs.record.is_open.Goals as goal

pub returns : goal.returns
returns c = search rules
