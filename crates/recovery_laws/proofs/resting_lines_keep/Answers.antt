use Rattle.recovery_laws.proofs.Joining.{stands_first, resting_lines_keep}
use Rattle.recovery_laws.proofs.resting_lines_keep.Goals as goal

pub returns-clause-first : goal.returns-clause-first
returns-clause-first c = stands_first

pub returns-clause-keep : goal.returns-clause-keep
returns-clause-keep c = resting_lines_keep
