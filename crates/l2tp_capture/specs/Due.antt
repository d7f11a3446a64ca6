-- What a command comes to: its exit, what it writes to its output, and what it tells beside.
use Rattle.std.specs.Prelude.{ℕ, List, [], Option, Some, None, Result, Ok, Err}
use Rattle.port_traits.specs.Limits.{limit_passed}
use Rattle.report_reading.specs.declared.error.ReportError.{ReportError}
use Rattle.report_reading.specs.declared.error.ReportError.TheVariants.{BadLine, NoMemory}
use Rattle.l2tp_capture.specs.declared.exit.Exit.{Exit}
use Rattle.l2tp_capture.specs.declared.exit.Exit.TheVariants as exits
use Rattle.l2tp_capture.specs.Captures.{capture_of}
use Rattle.l2tp_capture.specs.Texts.{bad_line_text, too_long_text}

pub record Due : Type 0 where
  pub exit : Exit
  pub output : List ℕ
  pub message : List ℕ

abbrev pub due : Exit → List ℕ → List ℕ → Due
due e output message = record { exit = e; output = output; message = message }

-- the number of a bad line; reading as it is defined never wants memory
abbrev pub bad_line_of : ReportError → ℕ
bad_line_of (BadLine line) = line
bad_line_of NoMemory = 0

-- the capture, or the first bad line and no capture
unfoldable pub due_of_capture : Result (List ℕ) ReportError → Due
due_of_capture (Ok file) = due exits.Ok file []
due_of_capture (Err e) = due (exits.BadLine (bad_line_of e)) [] (bad_line_text (bad_line_of e))

-- a text that passes a limit isn't read further
unfoldable pub due_within : Option ℕ → List ℕ → Due
due_within (Some lines) text = due (exits.TooLong lines) [] (too_long_text lines)
due_within None text = due_of_capture (capture_of text)

-- what a text comes to
unfoldable pub due_of : List ℕ → Due
due_of text = due_within (limit_passed text) text
