use Rattle.control_message.proofs.WithVector.{room_with}
use Rattle.control_message.proofs.writing.has_room_with.Goals as goal

pub returns : goal.returns
returns c = λ k v m w. room_with k v m c.unhides_what_was_hidden.ensures w
