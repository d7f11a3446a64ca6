use Rattle.std.proofs.Common.{length, ◌-◌}
use Rattle.lcp_wire.proofs.Options.{Stands}
use Rattle.lcp_wire.proofs.reading.read_all.Given as goal

abbrev pub invariant-loop-at : goal.invariant-loop-at
invariant-loop-at l = Stands l.bytes l.options l.at

abbrev pub decreases-loop-at : goal.decreases-loop-at
decreases-loop-at l = length l.bytes - l.at
