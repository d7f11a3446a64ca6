use Rattle.recovery_laws.proofs.Covered.{joined_worlds_cover}
use Rattle.recovery_laws.proofs.joined_worlds_cover.Goals as goal

pub returns : goal.returns
returns c = let below = c.sessions_below.ensures in joined_worlds_cover below.births below.coverage
