-- the goal is answered here so that a wrong body is refused without a second search
use Rattle.std.proofs.Common.{rules}
use Rattle.schedule_text.proofs.line_reading.lac_line.Goals as goal

pub returns : goal.returns
returns c = search rules
