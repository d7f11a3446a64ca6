use Rattle.session_workers.proofs.FinishedMoves.{makes}
use Rattle.session_workers.proofs.work.note.Goals as goal

pub another-requires-clause-rule : goal.another-requires-clause-rule
another-requires-clause-rule g c = makes _ _ _
