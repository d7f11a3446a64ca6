use Rattle.send_window.proofs.Whole.{each_call_is_a_step, lends_by_number, keeps_the_rest}
use Rattle.send_window.proofs.keeps_the_rest.Goals as goal

pub returns-clause-step : goal.returns-clause-step
returns-clause-step c = each_call_is_a_step

pub returns-clause-run : goal.returns-clause-run
returns-clause-run c = keeps_the_rest

pub returns-clause-lends : goal.returns-clause-lends
returns-clause-lends c = lends_by_number
