use Rattle.recovery_laws.proofs.Hearing.{joined_worlds_hear}
use Rattle.recovery_laws.proofs.joined_worlds_hear.Goals as goal

pub returns : goal.returns
returns c = let below = c.sessions_below.ensures in joined_worlds_hear below.births below.coverage
