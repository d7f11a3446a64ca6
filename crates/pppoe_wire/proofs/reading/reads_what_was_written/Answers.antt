use Rattle.pppoe_wire.proofs.Frames as frames
use Rattle.pppoe_wire.proofs.Tags as tags
use Rattle.pppoe_wire.proofs.reading.reads_what_was_written.Goals as goal

pub returns-clause-frame : goal.returns-clause-frame
returns-clause-frame c = frames.written_again

pub returns-clause-tags : goal.returns-clause-tags
returns-clause-tags c = tags.written_again
