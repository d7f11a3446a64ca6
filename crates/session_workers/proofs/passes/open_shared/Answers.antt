use Rattle.session_workers.proofs.ItemMoves.{begins}
use Rattle.session_workers.proofs.FinishedMoves.{finished_begins}
use Rattle.session_workers.proofs.passes.open_shared.Goals as goal

pub ruled-requires-clause-rule : goal.ruled-requires-clause-rule
ruled-requires-clause-rule g c = begins

pub ruled-requires-2-clause-rule : goal.ruled-requires-2-clause-rule
ruled-requires-2-clause-rule g c = finished_begins
