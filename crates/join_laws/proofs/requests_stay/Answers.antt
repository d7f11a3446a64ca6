use Rattle.join_laws.proofs.RolesStay.{requests_stay}
use Rattle.join_laws.proofs.requests_stay.Goals as goal

pub returns : goal.returns
returns c = requests_stay
