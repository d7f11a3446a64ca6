use Rattle.std.proofs.Common.{◌≡◌, ◌++◌, length}
use Rattle.tunnel_secret.specs.Hiding.{first_mask, text_of}
use Rattle.tunnel_secret.proofs.hiding.transform.Given as goal

abbrev pub invariant-loop-rest : goal.invariant-loop-rest
invariant-loop-rest l = l.out ++ text_of l.direction l.secret l.mask l.rest ≡ text_of l.direction l.secret (first_mask l.fn.attribute l.secret l.vector) l.text

abbrev pub decreases-loop-rest : goal.decreases-loop-rest
decreases-loop-rest l = length l.rest
