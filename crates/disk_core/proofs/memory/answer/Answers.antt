-- the goals are answered here so that a wrong body is refused without a second search
use Rattle.std.proofs.Common.{rules}
use Rattle.disk_core.proofs.memory.answer.Goals as goal

pub returns-then-contains-clause-cause : goal.returns-then-contains-clause-cause
returns-then-contains-clause-cause c = search rules

pub returns-then-contains-clause-faults : goal.returns-then-contains-clause-faults
returns-then-contains-clause-faults c = search rules
