use Rattle.channel_laws.proofs.Restarted.{starting_moves_keep}
use Rattle.channel_laws.proofs.starting_moves_keep.Goals as goal

pub returns : goal.returns
returns c = starting_moves_keep
