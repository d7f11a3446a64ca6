use Rattle.std.proofs.Common.{◌≡◌, length}
use Rattle.control_message.specs.Reading.{first_draw}
use Rattle.control_message.proofs.finding.find_draw.Given as goal

abbrev pub invariant-loop-avp : goal.invariant-loop-avp
invariant-loop-avp l = first_draw l.rest ≡ first_draw l.avps

abbrev pub decreases-loop-avp : goal.decreases-loop-avp
decreases-loop-avp l = length l.rest
