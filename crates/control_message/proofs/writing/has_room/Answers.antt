use Rattle.control_message.proofs.Room.{room}
use Rattle.control_message.proofs.writing.has_room.Goals as goal

pub returns : goal.returns
returns c = room
