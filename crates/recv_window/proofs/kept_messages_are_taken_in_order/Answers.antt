use Rattle.recv_window.proofs.Receiving.{taken_in_order, copies_replace_none}
use Rattle.recv_window.proofs.kept_messages_are_taken_in_order.Goals as goal

pub returns-clause-in_order : goal.returns-clause-in_order
returns-clause-in_order g c = taken_in_order

pub returns-clause-first : goal.returns-clause-first
returns-clause-first g c = copies_replace_none
