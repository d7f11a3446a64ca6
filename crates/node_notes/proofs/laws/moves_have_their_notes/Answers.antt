use Rattle.node_notes.proofs.Quiet.{moves_have_each}
use Rattle.node_notes.proofs.laws.moves_have_their_notes.Goals as goal

pub returns : goal.returns
returns c = moves_have_each
