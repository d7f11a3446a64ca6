use Rattle.std.proofs.Common.{length}
use Rattle.report_reading.proofs.Entries.{Stands}
use Rattle.report_reading.proofs.reading.read_all.Given as goal

abbrev pub invariant-loop-rest : goal.invariant-loop-rest
invariant-loop-rest l = Stands l.text l.entries l.rest

abbrev pub decreases-loop-rest : goal.decreases-loop-rest
decreases-loop-rest l = length l.rest
