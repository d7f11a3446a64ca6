use Rattle.run_examples.proofs.Computed.{calls_are_refused}
use Rattle.run_examples.proofs.calls_are_refused.Goals as goal

pub returns : goal.returns
returns c = calls_are_refused
