use Rattle.line_join_laws.proofs.Fallen.{fallen_nodes_join}
use Rattle.line_join_laws.proofs.fallen_nodes_join.Goals as goal

pub returns : goal.returns
returns c = fallen_nodes_join
