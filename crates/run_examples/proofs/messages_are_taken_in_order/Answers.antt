use Rattle.run_examples.proofs.Computed.{messages_are_taken_in_order}
use Rattle.run_examples.proofs.messages_are_taken_in_order.Goals as goal

pub returns : goal.returns
returns c = messages_are_taken_in_order
