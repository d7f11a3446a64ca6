use Rattle.std.proofs.Common.{Ok}
use Rattle.avp_codec.proofs.Laws.{is_found}
use Rattle.control_message.specs.Uncovering.{uncovered}
use Rattle.control_message.proofs.Plain.{shorter, uncovered_fit}
use Rattle.control_message.proofs.uncovering.spells_what_was_uncovered.Goals as goal

pub returns-clause-shorter : goal.returns-clause-shorter
returns-clause-shorter c = shorter

pub returns-clause-fits : goal.returns-clause-fits
returns-clause-fits c = λ k avps h. let fit = uncovered_fit k avps h in (fit, c.reads_what_was_written.ensures (uncovered k avps) fit)

pub returns-clause-read : goal.returns-clause-read
returns-clause-read c = λ k body avps bytes h.
    let fit = uncovered_fit k avps (is_found body (Ok avps) bytes h).0 in
    c.reads_what_was_written.ensures (uncovered k avps) fit

pub returns-clause-are : goal.returns-clause-are
returns-clause-are c = λ k body avps bytes h. uncovered_fit k avps (is_found body (Ok avps) bytes h).0
