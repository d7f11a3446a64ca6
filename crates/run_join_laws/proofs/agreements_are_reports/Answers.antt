use Rattle.run_join_laws.proofs.Reported.{agreements_are_reports}
use Rattle.run_join_laws.proofs.agreements_are_reports.Goals as goal

pub returns : goal.returns
returns c = agreements_are_reports
