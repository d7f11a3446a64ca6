-- the goal is answered here so that a wrong body is refused without a second search
use Rattle.std.proofs.Common.{rules}
use Rattle.pppoe_session.specs.Subscribers.{holder_of}
use Rattle.pppoe_session.specs.Subscribers.{subscriber_of}
use Rattle.pppoe_session.proofs.Table.holder.Goals as goal

pub returns-in-Some : goal.returns-in-Some
unfolding holder_of subscriber_of
returns-in-Some c = search rules
