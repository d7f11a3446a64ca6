-- the goal is answered here so that a wrong body is refused without a second search
use Rattle.std.proofs.Common.{rules}
use Rattle.checkpoint_journal.proofs.record.write_durably.Goals as goal

pub returns-clause-done : goal.returns-clause-done
returns-clause-done g c = search rules
