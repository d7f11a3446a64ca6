use Rattle.schedule_making.proofs.Runs.{none_yet}
use Rattle.schedule_making.proofs.making.Maker.new.Goals as goal

pub returns-clause-run : goal.returns-clause-run
returns-clause-run c = none_yet c.new.result c.new-2.result c.new.ensures c.new-2.ensures
