use Rattle.std.proofs.Common.{refl}
use Rattle.step_laws.proofs.faults_have_codes.Goals as goal

pub returns : goal.returns
returns c = record { avp = refl; value = refl; mandatory = refl }
