use Rattle.node_notes.proofs.Records.{records_are_told}
use Rattle.node_notes.proofs.laws.records_have_their_notes.Goals as goal

pub returns : goal.returns
returns c = records_are_told
