use Rattle.session_workers.proofs.FinishedMoves.{gets, evens_tell}
use Rattle.session_workers.proofs.work.collect.Goals as goal

pub pop_as-requires-clause-rule : goal.pop_as-requires-clause-rule
pop_as-requires-clause-rule g c = (gets _ _ c.requires.of.finished_part, evens_tell _ _)
