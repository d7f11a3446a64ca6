use Rattle.due_laws.proofs.Bounds.{puts_move, turns_move, bounds_stay}
use Rattle.due_laws.proofs.turns_move_due.Goals as goal

pub returns-clause-put : goal.returns-clause-put
returns-clause-put c = puts_move

pub returns-clause-turn : goal.returns-clause-turn
returns-clause-turn c = turns_move

pub returns-clause-bounds : goal.returns-clause-bounds
returns-clause-bounds c e bound all = bounds_stay bound e all
