use Rattle.std.proofs.Common.{◌≡◌, length, ◌++◌}
use Rattle.control_message.specs.Reading.{sessions_in}
use Rattle.control_message.proofs.reading.sessions_in.Given as goal

abbrev pub invariant-loop-avp : goal.invariant-loop-avp
invariant-loop-avp l = l.sessions ++ sessions_in l.rest ≡ sessions_in l.avps

abbrev pub decreases-loop-avp : goal.decreases-loop-avp
decreases-loop-avp l = length l.rest
