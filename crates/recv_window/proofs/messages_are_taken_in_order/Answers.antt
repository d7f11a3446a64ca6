use Rattle.recv_window.proofs.Order.{taken_in_order}
use Rattle.recv_window.proofs.messages_are_taken_in_order.Goals as goal

pub returns : goal.returns
returns c = taken_in_order
