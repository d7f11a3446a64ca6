use Rattle.frame_laws.proofs.Runs.{calm_facts_of_runs}
use Rattle.frame_laws.proofs.calm_facts_hold.Goals as goal

pub returns : goal.returns
returns c = calm_facts_of_runs c.written_is_read_again.ensures c.laws_of_steps.ensures
