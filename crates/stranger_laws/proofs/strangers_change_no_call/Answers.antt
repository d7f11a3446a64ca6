use Rattle.stranger_laws.proofs.Lines as lines
use Rattle.stranger_laws.proofs.strangers_change_no_call.Goals as goal

pub returns-clause-lines : goal.returns-clause-lines
returns-clause-lines c = lines.strangers_change_no_call c.books_are_of_ends.ensures.ends c.true_looks_fit.ensures c.strangers_change_nothing.ensures.ends

pub returns-clause-addresses : goal.returns-clause-addresses
returns-clause-addresses c = lines.addresses_are_of_nodes
