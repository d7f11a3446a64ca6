use Rattle.std.proofs.Common.{◌≡◌, length}
use Rattle.std.specs.List.{find}
use Rattle.control_message.specs.Reading.{is_plain_short}
use Rattle.control_message.proofs.finding.find_plain_short.Given as goal

abbrev pub invariant-loop-avp : goal.invariant-loop-avp
invariant-loop-avp l = find (λ a. is_plain_short l.attribute a) l.rest ≡ find (λ a. is_plain_short l.attribute a) l.avps

abbrev pub decreases-loop-avp : goal.decreases-loop-avp
decreases-loop-avp l = length l.rest
