use Rattle.due_laws.proofs.Busy.{due_turns_act, due_recoveries_act, end_acts}
use Rattle.due_laws.proofs.due_ticks_act.Goals as goal

pub returns-clause-turns : goal.returns-clause-turns
returns-clause-turns c = due_turns_act

pub returns-clause-recoveries : goal.returns-clause-recoveries
returns-clause-recoveries c = due_recoveries_act

pub returns-clause-ends : goal.returns-clause-ends
returns-clause-ends c e ascend fits moment block = end_acts e fits moment block ascend
