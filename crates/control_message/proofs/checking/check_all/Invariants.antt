use Rattle.std.proofs.Common.{length}
use Rattle.control_message.proofs.Walk.{Walked}
use Rattle.control_message.proofs.checking.check_all.Given as goal

abbrev pub invariant-loop-avp : goal.invariant-loop-avp
invariant-loop-avp l = Walked l.kind l.seen l.avps l.rest

abbrev pub decreases-loop-avp : goal.decreases-loop-avp
decreases-loop-avp l = length l.rest
