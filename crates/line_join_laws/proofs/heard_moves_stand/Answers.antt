use Rattle.line_join_laws.proofs.Stood.{heard_moves_stand}
use Rattle.line_join_laws.proofs.heard_moves_stand.Goals as goal

pub returns : goal.returns
returns c = heard_moves_stand
