use Rattle.run_examples.proofs.Computed.{messages_are_acknowledged}
use Rattle.run_examples.proofs.messages_are_acknowledged.Goals as goal

pub returns : goal.returns
returns c = messages_are_acknowledged
