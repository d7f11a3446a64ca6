use Rattle.report_reading.proofs.Found.{line_found}
use Rattle.report_reading.proofs.Again.{sent_again, text_again}
use Rattle.report_reading.proofs.reading.sent_lines_are_read.Goals as goal

pub returns-clause-found : goal.returns-clause-found
returns-clause-found c = λ text e h. line_found text e h

pub returns-clause-again : goal.returns-clause-again
returns-clause-again c = λ e h. sent_again e h

pub returns-clause-in_front : goal.returns-clause-in_front
returns-clause-in_front c = λ e number rest h. text_again e number rest h
