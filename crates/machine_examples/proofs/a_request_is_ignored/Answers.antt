use Rattle.machine_examples.proofs.Computed.{ignored_request}
use Rattle.machine_examples.proofs.a_request_is_ignored.Goals as goal

pub returns : goal.returns
returns c = ignored_request
