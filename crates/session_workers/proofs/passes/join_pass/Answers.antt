use Rattle.session_workers.proofs.ItemMoves.{merges, learns_once}
use Rattle.session_workers.proofs.FinishedMoves.{finished_merge}
use Rattle.session_workers.proofs.passes.join_pass.Goals as goal

pub absorb-requires-clause-rule : goal.absorb-requires-clause-rule
absorb-requires-clause-rule g c = merges _ _ _ _

pub learn_as-requires-clause-rule : goal.learn_as-requires-clause-rule
learn_as-requires-clause-rule g c = learns_once _ _

pub absorb-requires-2-clause-rule : goal.absorb-requires-2-clause-rule
absorb-requires-2-clause-rule g c = finished_merge _ _ _ _
