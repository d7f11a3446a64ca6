use Rattle.run_examples.proofs.Computed.{ids_run_out}
use Rattle.run_examples.proofs.ids_run_out.Goals as goal

pub returns : goal.returns
returns c = ids_run_out
