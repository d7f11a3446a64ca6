use Rattle.join_laws.proofs.StillMoves.{still_moves_join}
use Rattle.join_laws.proofs.still_moves_join.Goals as goal

pub returns : goal.returns
returns c = still_moves_join
