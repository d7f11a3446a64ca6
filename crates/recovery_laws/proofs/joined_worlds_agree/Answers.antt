use Rattle.recovery_laws.proofs.Same.{joined_worlds_agree}
use Rattle.recovery_laws.proofs.joined_worlds_agree.Goals as goal

pub returns : goal.returns
returns c = let below = c.sessions_below.ensures in joined_worlds_agree below.births below.coverage
