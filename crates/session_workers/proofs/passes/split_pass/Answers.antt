use Rattle.session_workers.proofs.ItemMoves.{splits}
use Rattle.session_workers.proofs.FinishedMoves.{cuts_one}
use Rattle.session_workers.proofs.passes.split_pass.Goals as goal

pub another-items-requires-clause-rule : goal.another-items-requires-clause-rule
another-items-requires-clause-rule g c = splits _ _ c.requires.parts.0

pub another-finished-requires-clause-rule : goal.another-finished-requires-clause-rule
another-finished-requires-clause-rule g c = cuts_one _ _ c.requires.parts.1
