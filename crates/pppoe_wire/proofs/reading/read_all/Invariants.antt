use Rattle.std.proofs.Common.{length, ◌-◌}
use Rattle.pppoe_wire.proofs.Tags.{Stands}
use Rattle.pppoe_wire.proofs.reading.read_all.Given as goal

abbrev pub invariant-loop-tags : goal.invariant-loop-tags
invariant-loop-tags l = Stands l.payload l.tags l.at

abbrev pub decreases-loop-tags : goal.decreases-loop-tags
decreases-loop-tags l = length l.payload - l.at
