use Rattle.schedule_text.proofs.Numbers.{Stands}
use Rattle.report_reading.proofs.parts.read_digits.Given as goal

abbrev pub invariant-loop-byte : goal.invariant-loop-byte
invariant-loop-byte l = Stands l.word l.most l.byte-index l.number
