use Rattle.control_message.specs.Pairs.{pairs_of}
use Rattle.control_message.proofs.Again.{message_again, pairs_fit}
use Rattle.control_message.proofs.reading.reads_what_was_written.Goals as goal

pub returns : goal.returns
returns c = λ known m is w. (c.reads_what_was_written.ensures (pairs_of m) (pairs_fit m w), message_again known m is w)
