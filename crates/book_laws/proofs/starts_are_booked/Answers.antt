use Rattle.book_laws.proofs.Starts.{starts_are_booked, started_runs_are_booked, starts_send_only}
use Rattle.book_laws.proofs.Again.{starts_bring_back}
use Rattle.book_laws.proofs.starts_are_booked.Goals as goal

pub returns-clause-booked : goal.returns-clause-booked
returns-clause-booked c = starts_are_booked

pub returns-clause-run : goal.returns-clause-run
returns-clause-run c = started_runs_are_booked c.steps_are_booked.ensures.run

pub returns-clause-back : goal.returns-clause-back
returns-clause-back c = starts_bring_back

pub returns-clause-quiet : goal.returns-clause-quiet
returns-clause-quiet c = starts_send_only
