use Rattle.control_message.proofs.Plain.{messages_stay}
use Rattle.control_message.proofs.uncovering.plain_messages_stay.Goals as goal

pub returns : goal.returns
returns c = messages_stay
