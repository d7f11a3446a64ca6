use Rattle.session_query.proofs.Order.{in_order}
use Rattle.session_query.proofs.pairs_are_asked_in_order.Goals as goal

pub returns : goal.returns
returns c = in_order
