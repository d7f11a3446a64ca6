use Rattle.stranger_laws.proofs.Passing as passing
use Rattle.stranger_laws.proofs.true_looks_fit.Goals as goal

pub returns : goal.returns
returns c = passing.true_looks_fit
