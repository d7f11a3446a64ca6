use Rattle.machine_examples.proofs.Computed.{whole_run}
use Rattle.machine_examples.proofs.a_whole_run.Goals as goal

pub returns : goal.returns
returns c = whole_run
