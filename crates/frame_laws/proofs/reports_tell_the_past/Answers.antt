use Rattle.frame_laws.proofs.Runs.{reports_of_runs}
use Rattle.frame_laws.proofs.reports_tell_the_past.Goals as goal

pub returns : goal.returns
returns c = reports_of_runs c.written_is_read_again.ensures c.laws_of_steps.ensures
