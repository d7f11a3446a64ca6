use Rattle.std.proofs.Common.{◌≡◌, ◌++◌, length}
use Rattle.avp_codec.proofs.lent.LentAvps.copy.Given as goal

abbrev pub invariant-loop-avp : goal.invariant-loop-avp
invariant-loop-avp l = l.avps ++ l.rest ≡ l.self

abbrev pub decreases-loop-avp : goal.decreases-loop-avp
decreases-loop-avp l = length l.rest
