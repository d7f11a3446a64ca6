use Rattle.stop_laws.proofs.Cuts.{stops_amid_steps}
use Rattle.stop_laws.proofs.stops_amid_steps.Goals as goal

pub returns : goal.returns
returns c = stops_amid_steps
