-- the goal is answered here so that a wrong body is refused without a second search
use Rattle.std.proofs.Common.{rules}
use Rattle.schedule_text.proofs.parts.begins_well.Goals as goal

pub returns-in_default : goal.returns-in_default
returns-in_default c = search rules
