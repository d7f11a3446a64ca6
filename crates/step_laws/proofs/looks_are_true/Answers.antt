use Rattle.step_laws.proofs.Looks.{looks_begin, looks_stay}
use Rattle.step_laws.proofs.looks_are_true.Goals as goal

pub returns-clause-begin : goal.returns-clause-begin
returns-clause-begin c = looks_begin

pub returns-clause-stay : goal.returns-clause-stay
returns-clause-stay c = looks_stay c.steps_are_chains.ensures
