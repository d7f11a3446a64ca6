use Rattle.step_laws.proofs.Few.{tunnels_begin_few, tunnels_stay_few}
use Rattle.step_laws.proofs.tunnels_stay_few.Goals as goal

pub returns-clause-begin : goal.returns-clause-begin
returns-clause-begin c = tunnels_begin_few

pub returns-clause-stay : goal.returns-clause-stay
returns-clause-stay c = tunnels_stay_few c.steps_are_chains.ensures
