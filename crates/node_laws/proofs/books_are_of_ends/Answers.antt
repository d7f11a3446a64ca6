use Rattle.node_laws.proofs.Runs.{nodes_of_runs, ends_of_runs}
use Rattle.node_laws.proofs.books_are_of_ends.Goals as goal

pub returns-clause-nodes : goal.returns-clause-nodes
returns-clause-nodes c = nodes_of_runs c.steps_are_chains.ensures c.looks_are_true.ensures.stay c.looks_are_true.ensures.begin c.steps_are_booked.ensures.each c.starts_are_booked.ensures.booked c.steps_are_booked.ensures.new

pub returns-clause-ends : goal.returns-clause-ends
returns-clause-ends c = ends_of_runs (nodes_of_runs c.steps_are_chains.ensures c.looks_are_true.ensures.stay c.looks_are_true.ensures.begin c.steps_are_booked.ensures.each c.starts_are_booked.ensures.booked c.steps_are_booked.ensures.new)
