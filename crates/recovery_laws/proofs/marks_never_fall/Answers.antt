use Rattle.recovery_laws.proofs.Marks.{marks_never_fall}
use Rattle.recovery_laws.proofs.marks_never_fall.Goals as goal

pub returns : goal.returns
returns c = let below = c.laws_below.ensures in marks_never_fall below.chains below.booked below.nodes below.records below.lines
