use Rattle.session_workers.proofs.FinishedMoves.{gives, evens_tell}
use Rattle.session_workers.proofs.work.hand_over.Goals as goal

pub push_as-requires-clause-rule : goal.push_as-requires-clause-rule
push_as-requires-clause-rule g c = (gives _ _ _ _ c.requires.of.finished_part, evens_tell _ _)
