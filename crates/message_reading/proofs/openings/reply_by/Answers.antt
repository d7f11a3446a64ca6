-- the goal is answered here so that a wrong body is refused without a second search
use Rattle.std.proofs.Common.{rules}
use Rattle.message_reading.proofs.openings.reply_by.Goals as goal

pub returns : goal.returns
returns c = search rules
