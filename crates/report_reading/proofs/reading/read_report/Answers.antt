use Rattle.report_reading.proofs.Carried.{report_carried}
use Rattle.report_reading.proofs.reading.read_report.Goals as goal

pub returns-clause-carried : goal.returns-clause-carried
returns-clause-carried c = report_carried c.args.text.now c.read_all.result c.read_all.ensures
