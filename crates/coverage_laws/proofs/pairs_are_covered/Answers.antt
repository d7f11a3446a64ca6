use Rattle.coverage_laws.proofs.Covered.{of_runs}
use Rattle.coverage_laws.proofs.pairs_are_covered.Goals as goal

pub returns : goal.returns
returns c = of_runs
