use Rattle.std.proofs.Common.{◌≡◌, length}
use Rattle.capture_file.specs.Sums.{sum_from}
use Rattle.capture_file.proofs.sums.sum_of.Given as goal

abbrev pub invariant-loop-left : goal.invariant-loop-left
invariant-loop-left l = sum_from l.sum l.left ≡ sum_from 0 l.bytes

abbrev pub decreases-loop-left : goal.decreases-loop-left
decreases-loop-left l = length l.left
