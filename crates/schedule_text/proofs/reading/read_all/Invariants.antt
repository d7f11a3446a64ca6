use Rattle.std.proofs.Common.{length}
use Rattle.schedule_text.proofs.TextLines.{Stands}
use Rattle.schedule_text.proofs.reading.read_all.Given as goal

abbrev pub invariant-loop-rest : goal.invariant-loop-rest
invariant-loop-rest l = Stands l.text l.lines l.rest

abbrev pub decreases-loop-rest : goal.decreases-loop-rest
decreases-loop-rest l = length l.rest
