use Rattle.session_workers.proofs.ItemMoves.{names}
use Rattle.session_workers.proofs.passes.name_row.Goals as goal

pub another-requires-clause-rule : goal.another-requires-clause-rule
another-requires-clause-rule g c = names _ _ _ c.requires.first
