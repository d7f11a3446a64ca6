use Rattle.join_laws.proofs.Closes.{channels_close}
use Rattle.join_laws.proofs.channels_close.Goals as goal

pub returns : goal.returns
returns c = channels_close
