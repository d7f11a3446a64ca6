-- What a command comes to: its exit, and the text that it writes.
use Rattle.std.specs.Prelude.{ℕ, List, Option, Some, None, Result, Ok, Err}
use Rattle.port_traits.specs.Limits.{limit_passed}
use Rattle.schedule_text.specs.declared.line.Line.{Line}
use Rattle.schedule_text.specs.declared.error.ScheduleError.{ScheduleError}
use Rattle.schedule_text.specs.declared.error.ScheduleError.TheVariants.{BadLine, NoMemory}
use Rattle.schedule_text.specs.Reading.{lines_of}
use Rattle.world_model.specs.declared.refusal.Refusal.{Refusal}
use Rattle.world_model.specs.declared.refusal.Refusal.TheVariants.{Unfit, HalfSpace, Stale, StoreFull}
use Rattle.world_model.specs.Run.{Run, run, report_of}
use Rattle.l2tp_cli.specs.declared.exit.Exit.{Exit}
use Rattle.l2tp_cli.specs.declared.exit.Exit.TheVariants as exits
use Rattle.l2tp_cli.specs.Texts.{bad_line_text, too_long_text}

pub record Due : Type 0 where
  pub exit : Exit
  pub text : List ℕ

abbrev pub due : Exit → List ℕ → Due
due e t = record { exit = e; text = t }

-- a line that is refused ends the run
abbrev pub refused : ℕ → Refusal → Exit
refused line (Unfit why) = exits.Unfit line why
refused line (HalfSpace number count) = exits.HalfSpace line number count
refused line (Stale sent own) = exits.Stale line sent own
refused line (StoreFull records) = exits.StoreFull records

abbrev pub exit_of : Option (ℕ × Refusal) → Exit
exit_of None = exits.Ok
exit_of (Some f) = refused f.0 f.1

-- the report of the run
unfoldable pub due_of_run : Run → Due
due_of_run r = due (exit_of r.fault) (report_of r)

-- the number of a bad line; reading as it is defined never wants memory
abbrev pub bad_line_of : ScheduleError → ℕ
bad_line_of (BadLine line) = line
bad_line_of NoMemory = 0

-- the lines that the text spells are run, or the first bad line is told
unfoldable pub due_of_lines : Result (List Line) ScheduleError → Due
due_of_lines (Ok lines) = due_of_run (run lines)
due_of_lines (Err e) = due (exits.BadLine (bad_line_of e)) (bad_line_text (bad_line_of e))

-- a text that passes a limit isn't read further
unfoldable pub due_within : Option ℕ → List ℕ → Due
due_within (Some lines) text = due (exits.TooLong lines) (too_long_text lines)
due_within None text = due_of_lines (lines_of text)

-- what a text comes to
unfoldable pub due_of : List ℕ → Due
due_of text = due_within (limit_passed text) text
