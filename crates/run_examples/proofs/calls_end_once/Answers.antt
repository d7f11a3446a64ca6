use Rattle.run_examples.proofs.Computed.{calls_end_once}
use Rattle.run_examples.proofs.calls_end_once.Goals as goal

pub returns : goal.returns
returns c = calls_end_once
