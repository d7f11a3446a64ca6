use Rattle.frame_laws.proofs.Runs.{facts_of_runs}
use Rattle.frame_laws.proofs.facts_hold.Goals as goal

pub returns : goal.returns
returns c = facts_of_runs c.written_is_read_again.ensures c.laws_of_steps.ensures
