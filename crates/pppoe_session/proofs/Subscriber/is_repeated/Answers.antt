-- the goal is answered here so that a wrong body is refused without a second search
use Rattle.std.proofs.Common.{rules}
use Rattle.pppoe_session.specs.Subscribers.{is_repeat}
use Rattle.pppoe_session.proofs.Subscriber.is_repeated.Goals as goal

pub returns-in-Some-Some : goal.returns-in-Some-Some
unfolding is_repeat
returns-in-Some-Some c = search rules
