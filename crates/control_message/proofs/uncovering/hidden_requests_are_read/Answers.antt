use Rattle.control_message.proofs.HiddenRequests.{read_by_any}
use Rattle.control_message.proofs.uncovering.hidden_requests_are_read.Goals as goal

pub returns : goal.returns
returns c = λ reader secret vector number own serial w. read_by_any reader secret vector number own serial c.unhides_what_was_hidden.ensures w
