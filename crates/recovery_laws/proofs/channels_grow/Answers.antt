use Rattle.recovery_laws.proofs.Growing.{channels_grow}
use Rattle.recovery_laws.proofs.channels_grow.Goals as goal

pub returns : goal.returns
returns c = channels_grow
