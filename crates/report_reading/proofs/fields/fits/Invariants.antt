use Rattle.std.proofs.Common.{◌≡◌, drop}
use Rattle.report_reading.specs.Fields.{fits}
use Rattle.report_reading.proofs.fields.fits.Given as goal

abbrev pub invariant-loop-field : goal.invariant-loop-field
invariant-loop-field l = fits (drop l.field-index l.fields) l.last l.rest ≡ fits l.fields l.last l.words
