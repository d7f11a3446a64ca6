-- Moves by which an opening is declined, or a tunnel is closed by its other end, are joined; each is a list of moves of the machine.
use Rattle.end_model.specs.declared.moves.Move.{Move}
use Rattle.end_model.specs.declared.moves.Move.TheVariants as move
use Rattle.join_laws.specs.Steps.{Joins}

-- moves by which an opening is declined
abbrev pub IsDeclining : Move → Type 0
IsDeclining (move.Declined m) = Unit {0}
IsDeclining m = ⊥

abbrev pub DeclinesJoin : Type 0
DeclinesJoin = (m : Move) → IsDeclining m → Joins m

-- moves by which a tunnel is closed by a StopCCN that it takes: one that its other end gave, or one of no tunnel, by which its SCCRQ was
-- declined
abbrev pub IsStopped : Move → Type 0
IsStopped (move.ClosedBy m) = Unit {0}
IsStopped m = ⊥

abbrev pub StopsJoin : Type 0
StopsJoin = (m : Move) → IsStopped m → Joins m
