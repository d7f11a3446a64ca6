use Rattle.pool_serving.proofs.Parts.{draws_block}
use Rattle.pool_serving.proofs.desk.Desk.enter.Goals as goal

pub returns-in_default-clause-draws : goal.returns-in_default-clause-draws
returns-in_default-clause-draws g c = draws_block _ _ _ c.block-block.ensures.drawn
