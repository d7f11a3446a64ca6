use Rattle.pppoe_discovery.proofs.Reading.{ReadsAgain, reads_offer, reads_answer, reads_refusal, reads_end}
use Rattle.pppoe_discovery.proofs.laws.replies_are_read_again.Goals as goal

pub returns-clause-offer : goal.returns-clause-offer
returns-clause-offer c =
    let law : ReadsAgain = record { frame = c.reads_what_was_written.ensures.frame; tags = c.reads_what_was_written.ensures.tags } in
    reads_offer law

pub returns-clause-answer : goal.returns-clause-answer
returns-clause-answer c =
    let law : ReadsAgain = record { frame = c.reads_what_was_written.ensures.frame; tags = c.reads_what_was_written.ensures.tags } in
    reads_answer law

pub returns-clause-refusal : goal.returns-clause-refusal
returns-clause-refusal c =
    let law : ReadsAgain = record { frame = c.reads_what_was_written.ensures.frame; tags = c.reads_what_was_written.ensures.tags } in
    reads_refusal law

pub returns-clause-end : goal.returns-clause-end
returns-clause-end c =
    let law : ReadsAgain = record { frame = c.reads_what_was_written.ensures.frame; tags = c.reads_what_was_written.ensures.tags } in
    reads_end law
