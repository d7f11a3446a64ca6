-- the goal is answered here so that a wrong body is refused without a second search
use Rattle.std.proofs.Common.{rules}
use Rattle.message_reading.proofs.reading.is_for_call.Goals as goal

pub returns-after-is_value : goal.returns-after-is_value
returns-after-is_value c = search rules
