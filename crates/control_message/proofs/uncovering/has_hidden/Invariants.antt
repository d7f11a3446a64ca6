use Rattle.std.proofs.Common.{◌≡◌, length, is_some}
use Rattle.std.specs.List.{find}
use Rattle.avp_codec.specs.declared.avp.Avp.{Avp}
use Rattle.control_message.proofs.uncovering.has_hidden.Given as goal

abbrev pub invariant-loop-avp : goal.invariant-loop-avp
invariant-loop-avp l = is_some (find (λ (a : Avp). a.hidden) l.rest) ≡ is_some (find (λ (a : Avp). a.hidden) l.avps)

abbrev pub decreases-loop-avp : goal.decreases-loop-avp
decreases-loop-avp l = length l.rest
