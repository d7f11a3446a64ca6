use Rattle.std.specs.Prelude.{Ok}
use Rattle.schedule_text.proofs.Laws.{is_found}
use Rattle.schedule_text.proofs.reading.lines_are_a_schedule.Goals as goal

pub returns : goal.returns
returns c = λ text lines h. is_found text (Ok lines) h
