use Rattle.coverage_laws.proofs.Covered.{stops_keep_all}
use Rattle.coverage_laws.proofs.stops_keep_all.Goals as goal

pub returns : goal.returns
returns c = stops_keep_all
