use Rattle.std.proofs.Common.{length}
use Rattle.std.specs.Option.{option_copied}
use Rattle.control_message.proofs.Vectors.{Stands}
use Rattle.control_message.proofs.uncovering.copy_uncovered.Given as goal

abbrev pub invariant-loop-avp : goal.invariant-loop-avp
invariant-loop-avp l = Stands l.secret l.avps l.plain (option_copied l.vector) l.rest

abbrev pub decreases-loop-avp : goal.decreases-loop-avp
decreases-loop-avp l = length l.rest
