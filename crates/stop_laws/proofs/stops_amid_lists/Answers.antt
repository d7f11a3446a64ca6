use Rattle.stop_laws.proofs.Along.{stops_amid_lists}
use Rattle.stop_laws.proofs.stops_amid_lists.Goals as goal

pub returns : goal.returns
returns c = stops_amid_lists
