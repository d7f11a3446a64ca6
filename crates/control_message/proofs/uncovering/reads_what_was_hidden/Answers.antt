use Rattle.std.proofs.Common.{Some}
use Rattle.control_message.specs.Pairs.{pairs_with}
use Rattle.control_message.proofs.WithVector.{with_vector}
use Rattle.control_message.proofs.uncovering.reads_what_was_hidden.Goals as goal

pub returns : goal.returns
returns c = λ known s v m is w.
    let h = with_vector known s v m is c.unhides_what_was_hidden.ensures w in
    (c.reads_what_was_written.ensures (pairs_with (Some s) (Some v) m) h.fit, h.same, h.read)
