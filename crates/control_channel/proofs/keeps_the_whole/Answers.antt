use Rattle.control_channel.proofs.Steps.{each_call_steps, keeps_the_whole}
use Rattle.control_channel.proofs.Taken.{taken_counts_on}
use Rattle.control_channel.proofs.keeps_the_whole.Goals as goal

pub returns-clause-step : goal.returns-clause-step
returns-clause-step c = each_call_steps

pub returns-clause-run : goal.returns-clause-run
returns-clause-run c = keeps_the_whole

pub returns-clause-taken : goal.returns-clause-taken
returns-clause-taken c = taken_counts_on
