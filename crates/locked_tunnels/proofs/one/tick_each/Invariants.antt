use Rattle.session_cells.specs.Tokens.{Later}
use Rattle.locked_tunnels.specs.Turns.{AreTicks}
use Rattle.locked_tunnels.proofs.one.tick_each.Given as goal

abbrev pub invariant-loop-id : goal.invariant-loop-id
invariant-loop-id g l =
    Later l.locked.cells l.fn.seen l.seen ×
    (AreTicks l.moment l.block l.fn.turns → AreTicks l.moment l.block l.turns)
