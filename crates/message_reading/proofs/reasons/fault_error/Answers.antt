-- the goal is answered here so that a wrong body is refused without a second search
use Rattle.std.proofs.Common.{rules}
use Rattle.message_reading.proofs.reasons.fault_error.Goals as goal

pub returns-in-Mandatory : goal.returns-in-Mandatory
returns-in-Mandatory c = search rules
