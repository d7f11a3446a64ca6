use Rattle.run_examples.proofs.Computed.{openings_come_once}
use Rattle.run_examples.proofs.openings_come_once.Goals as goal

pub returns : goal.returns
returns c = openings_come_once
