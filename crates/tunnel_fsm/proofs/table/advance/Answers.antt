-- the goals are answered here so that a wrong body is refused without a second search
use Rattle.std.proofs.Common.{rules}
use Rattle.tunnel_fsm.proofs.table.advance.Goals as goal

pub returns-in-Closed-default : goal.returns-in-Closed-default
returns-in-Closed-default c = search rules

pub returns-in_default-AdminClose : goal.returns-in_default-AdminClose
returns-in_default-AdminClose c = search rules

pub returns-in_default-LocalOpen : goal.returns-in_default-LocalOpen
returns-in_default-LocalOpen c = search rules
