-- What was written is read again.
use Rattle.std.proofs.Common.{◌≡◌, inl, ℕ, List, Ok}
use Rattle.schedule_text.specs.declared.line.Line.{Line}
use Rattle.schedule_text.specs.Grammar.{AreLines, IsSchedule, spelling}
use Rattle.schedule_text.specs.Reading.{lines_of}
use Rattle.schedule_text.proofs.Laws.{schedule_again}

pub written_schedule : (text : List ℕ) (lines : List Line) → text ≡ spelling lines → AreLines lines → IsSchedule text lines
written_schedule text lines is fits = record { fits = fits; spelled = inl is }

pub written_again : (text : List ℕ) (lines : List Line) → text ≡ spelling lines → AreLines lines → lines_of text ≡ Ok lines
written_again text lines is fits = schedule_again text lines (written_schedule text lines is fits)
