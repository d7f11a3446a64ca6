use Rattle.std.proofs.Common.{◌≡◌, length}
use Rattle.control_message.specs.Reading.{first}
use Rattle.control_message.proofs.finding.find_avp.Given as goal

abbrev pub invariant-loop-avp : goal.invariant-loop-avp
invariant-loop-avp l = first l.attribute l.rest ≡ first l.attribute l.avps

abbrev pub decreases-loop-avp : goal.decreases-loop-avp
decreases-loop-avp l = length l.rest
