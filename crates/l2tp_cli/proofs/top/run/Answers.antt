use Rattle.std.proofs.Common.{◌∙◌, ap, List, ℕ, refl, rules}
use Rattle.l2tp_cli.specs.declared.exit.Exit.TheVariants as exits
use Rattle.schedule_text.specs.Reading.{lines_of}
use Rattle.l2tp_cli.specs.Texts.{too_long_text}
use Rattle.l2tp_cli.specs.Due.{due_of_lines}
use Rattle.l2tp_cli.proofs.Ending.{told_run, tells_same, within_stops, due-too_long, due-lines}
use Rattle.l2tp_cli.proofs.top.run.Goals as goal

pub returns-in-Err-TooLong : goal.returns-in-Err-TooLong
returns-in-Err-TooLong g c =
    let limit = rw c.in-Err-TooLong.field-0-is at c.in-Err-TooLong.ensures.too_long in
    let same = rw c.in-Err-TooLong.field-0-is at c.in-Err-TooLong.ensures.cause in
    let stops = rw c.in-Err-TooLong.field-0-is at c.in-Err-TooLong.ensures.stops in
    let lines = c.in-Err-TooLong.lines in
    let told = c.tell-in-Err-TooLong.ensures in
    told_run c.tell-in-Err-TooLong.result (exits.TooLong lines) (too_long_text lines) limit.0 _ (due-too_long limit.0 lines limit.1) limit.2 stops same (tells_same _ _ _ _ _ _ _ _ (c.as_slice.ensures ∙ c.in-Ok-too_long_text.ensures) told)

pub returns-in-Ok-answer_to : goal.returns-in-Ok-answer_to
returns-in-Ok-answer_to g c =
    let text = c.in-Ok.text in
    let same = ap (λ (t : List ℕ). due_of_lines (lines_of t)) c.as_slice-2.ensures in
    let is = c.in-Ok-answer_to.ensures ∙ same ∙ due-lines text c.in-Ok.ensures.within in
    let told = c.tell-in-Ok-answer_to.ensures in
    told_run c.tell-in-Ok-answer_to.result c.in-Ok-answer_to.answer.exit c.in-Ok-answer_to.answer.text text _ is c.in-Ok.ensures.whole (within_stops _ _ c.in-Ok.ensures.stops) c.in-Ok.ensures.cause (tells_same _ _ _ _ _ _ _ _ c.as_slice-in-Ok-answer_to.ensures told)

pub returns : goal.returns
returns g c = record {
  is_read = within_stops _ _ c.in-Ok.ensures.stops;
  nothing = search rules;
  no_read_fault = c.in-Ok.ensures.cause;
  no_write_fault = refl;
}
