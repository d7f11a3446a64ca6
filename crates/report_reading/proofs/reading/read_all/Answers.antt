use Rattle.std.proofs.Common.{sym, ◌∙◌}
use Rattle.std.proofs.lemmas.Bool.{eqb-true}
use Rattle.report_reading.proofs.Entries.{begins, stops, goes_on, is_done}
use Rattle.report_reading.proofs.reading.read_all.Goals as goal

pub loop-rest-init : goal.loop-rest-init
loop-rest-init c = rw c.new-entries.ensures (begins c.args.text.now)

pub returns-in_default : goal.returns-in_default
returns-in_default c =
    rw c.len.ensures (stops c.args.text.now c.loop-rest.entries c.loop-rest.rest.now c.first_line.result.0.now c.first_line.result.1.now c.loop-rest.invariant c.first_line.ensures.line (sym c.in_ok-entry.ensures ∙ c.in_default.is))

pub loop-rest-preserved : goal.loop-rest-preserved
loop-rest-preserved c =
    rw c.in_ok-push.ensures.ok
    (goes_on c.args.text.now c.loop-rest.entries c.loop-rest.rest.now c.first_line.result.0.now c.first_line.result.1.now c.in-Some.entry c.loop-rest.invariant c.first_line.ensures.line c.first_line.ensures.shorter (sym c.in_ok-entry.ensures ∙ c.in-Some.is))

pub returns : goal.returns
returns c = is_done c.args.text.now c.loop-rest.entries c.loop-rest.rest.now c.loop-rest.invariant (eqb-true _ 0 (sym c.loop-rest-test.ensures))
