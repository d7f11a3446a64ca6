use Rattle.due_laws.proofs.Quiet.{quiet_turn, quiet_calls, quiet_recovery}
use Rattle.due_laws.proofs.Skips.{left_out, quiet_end, quiet_step}
use Rattle.due_laws.proofs.early_ticks_do_nothing.Goals as goal

pub returns-clause-turns : goal.returns-clause-turns
returns-clause-turns c role letters calls t early = quiet_turn role letters t calls early

pub returns-clause-calls : goal.returns-clause-calls
returns-clause-calls c role letters sessions calls t early = quiet_calls role letters t sessions calls early

pub returns-clause-recoveries : goal.returns-clause-recoveries
returns-clause-recoveries c = quiet_recovery

pub returns-clause-tunnels : goal.returns-clause-tunnels
returns-clause-tunnels c e ascend moment block ids left = left_out e moment block ascend ids left

pub returns-clause-ends : goal.returns-clause-ends
returns-clause-ends c = quiet_end

pub returns-clause-steps : goal.returns-clause-steps
returns-clause-steps c = quiet_step
