use Rattle.run_examples.proofs.Computed.{frozen_calls_end_silently}
use Rattle.run_examples.proofs.frozen_calls_end_silently.Goals as goal

pub returns : goal.returns
returns c = frozen_calls_end_silently
