use Rattle.book_laws.proofs.Steps.{new_ends_are_booked, runs_are_booked, steps_are_booked}
use Rattle.book_laws.proofs.steps_are_booked.Goals as goal

pub returns-clause-each : goal.returns-clause-each
returns-clause-each c = steps_are_booked c.steps_are_chains.ensures c.steps_are_no_starts.ensures

pub returns-clause-run : goal.returns-clause-run
returns-clause-run c = runs_are_booked c.steps_are_chains.ensures c.steps_are_no_starts.ensures

pub returns-clause-new : goal.returns-clause-new
returns-clause-new c = new_ends_are_booked c.steps_are_chains.ensures c.steps_are_no_starts.ensures
