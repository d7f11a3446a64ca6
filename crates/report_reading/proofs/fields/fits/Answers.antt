use Rattle.std.proofs.Common.{◌∙◌, drop, length-drop, arith}
use Rattle.report_reading.proofs.FieldWords.{lacks_word}
use Rattle.report_reading.proofs.fields.fits.Goals as goal

pub returns-in_default : goal.returns-in_default
returns-in_default c =
    lacks_word (drop c.loop-field.field-index c.args.fields.now) c.args.last c.loop-field.rest.now (let lt = c.loop-field-test.true in omega (arith, length-drop c.loop-field.field-index c.args.fields.now)) c.in_default.ensures ∙ c.loop-field.invariant
