use Rattle.control_message.proofs.WithVector.{nothing_hidden}
use Rattle.control_message.proofs.writing.hides_nothing_without_a_vector.Goals as goal

pub returns : goal.returns
returns c = nothing_hidden
