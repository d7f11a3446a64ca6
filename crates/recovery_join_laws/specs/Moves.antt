-- Which moves of a recovery, and behind one, are joined; each is a list of moves of the machine.
use Rattle.end_model.specs.declared.moves.Move.{Move}
use Rattle.end_model.specs.declared.moves.Move.TheVariants as move
use Rattle.join_laws.specs.Steps.{Joins}

-- moves by which either end of a recovery resets its tunnel, and enters an epoch
abbrev pub IsReset : Move → Type 0
IsReset (move.ResetAttempting m) = Unit {0}
IsReset (move.ResetAnswering m) = Unit {0}
IsReset m = ⊥

abbrev pub ResetsJoin : Type 0
ResetsJoin = (m : Move) → IsReset m → Joins m

-- moves by which a tunnel that was reset asks which sessions its other end still has, is asked, or is answered
abbrev pub IsQuery : Move → Type 0
IsQuery (move.Queried m) = Unit {0}
IsQuery (move.AnsweredQuery m) = Unit {0}
IsQuery (move.TookAnswer m) = Unit {0}
IsQuery m = ⊥

abbrev pub QueriesJoin : Type 0
QueriesJoin = (m : Move) → IsQuery m → Joins m
