use Rattle.birth_laws.proofs.Runs.{of_runs}
use Rattle.birth_laws.proofs.each_birth_has_one_mate.Goals as goal

pub returns : goal.returns
returns c = of_runs
