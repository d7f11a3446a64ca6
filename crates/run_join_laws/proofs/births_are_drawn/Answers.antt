use Rattle.run_join_laws.proofs.Drawn.{births_are_drawn}
use Rattle.run_join_laws.proofs.births_are_drawn.Goals as goal

pub returns : goal.returns
returns c = births_are_drawn
