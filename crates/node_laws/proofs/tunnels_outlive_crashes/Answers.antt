use Rattle.node_laws.proofs.Runs.{restarts_of_runs}
use Rattle.node_laws.proofs.tunnels_outlive_crashes.Goals as goal

pub returns : goal.returns
returns c = restarts_of_runs c.books_are_of_ends.ensures.nodes c.starts_are_booked.ensures.back
