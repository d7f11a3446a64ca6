use Rattle.control_message.proofs.Plain.{leaves_plain}
use Rattle.control_message.proofs.uncovering.leaves_plain_pairs.Goals as goal

pub returns : goal.returns
returns c = leaves_plain
