use Rattle.call_link.specs.Told.{each_tells_due}
use Rattle.call_link.proofs.laws.timers_run_out_when_told.Goals as goal

pub returns : goal.returns
returns c = each_tells_due
