use Rattle.node_laws.proofs.Runs.{records_of_runs}
use Rattle.node_laws.proofs.records_are_in_place.Goals as goal

pub returns : goal.returns
returns c = records_of_runs c.books_are_of_ends.ensures.nodes c.steps_are_booked.ensures.each c.starts_are_booked.ensures.booked
