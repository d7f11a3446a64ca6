use Rattle.recovery_laws.proofs.Gone.{sessions_go_once}
use Rattle.recovery_laws.proofs.sessions_go_once.Goals as goal

pub returns : goal.returns
returns c = let below = c.laws_below.ensures in sessions_go_once below.once below.starting below.nodes below.lines
