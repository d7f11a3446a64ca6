use Rattle.std.proofs.Common.{arith, sym}
use Rattle.schedule_text.proofs.Numbers.{passes}
use Rattle.report_reading.proofs.parts.read_digits.Goals as goal

pub returns-then-number-from-clause-exact : goal.returns-then-number-from-clause-exact
returns-then-number-from-clause-exact c =
    sym (passes c.args.word.now c.args.most c.loop-byte.byte-index c.loop-byte.number c.from.result c.loop-byte.invariant c.loop-byte-test.true c.from.ensures (sym c.if-not-is_ascii_digit.ensures.value) (omega arith))
