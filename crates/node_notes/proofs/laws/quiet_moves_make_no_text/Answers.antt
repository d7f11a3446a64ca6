use Rattle.node_notes.proofs.Quiet.{quiet_makes_no_text}
use Rattle.node_notes.proofs.laws.quiet_moves_make_no_text.Goals as goal

pub returns : goal.returns
returns c = quiet_makes_no_text
