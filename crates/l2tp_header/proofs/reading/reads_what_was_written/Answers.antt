use Rattle.l2tp_header.proofs.Again.{control_again, data_again}
use Rattle.l2tp_header.proofs.reading.reads_what_was_written.Goals as goal

pub returns-clause-control : goal.returns-clause-control
returns-clause-control c = control_again

pub returns-clause-data_message : goal.returns-clause-data_message
returns-clause-data_message c = data_again
