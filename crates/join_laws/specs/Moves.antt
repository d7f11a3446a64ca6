-- Which moves of a step are joined, in groups; each is a list of moves of the machine.
use Rattle.std.specs.Prelude.{◌≡◌}
use Rattle.end_model.specs.declared.moves.Move.{Move}
use Rattle.end_model.specs.declared.moves.Move.TheVariants as move
use Rattle.join_laws.specs.Steps.{Joins}

-- moves that the machine has none for: what is acknowledged, what goes on the wire, once or again, links and frames, and recovery tunnels
-- that go on or end
abbrev pub IsNone : Move → Type 0
IsNone (move.NrRead m) = Unit {0}
IsNone (move.Quiet i) = Unit {0}
IsNone (move.LetGo m) = Unit {0}
IsNone (move.Repeated m) = Unit {0}
IsNone (move.Negotiated m) = Unit {0}
IsNone (move.Counted m) = Unit {0}
IsNone (move.FrameSent m) = Unit {0}
IsNone (move.FrameUp m) = Unit {0}
IsNone (move.RecoveryWentOn i) = Unit {0}
IsNone (move.RecoveryEnded i) = Unit {0}
IsNone (move.Ignored i) = Unit {0}
IsNone m = ⊥

abbrev pub StillMovesJoin : Type 0
StillMovesJoin = (m : Move) → IsNone m → Joins m

-- moves by which an established tunnel gives a letter, and takes none
abbrev pub IsGiving : Move → Type 0
IsGiving (move.Greeted m) = Unit {0}
IsGiving (move.Requested m) = Unit {0}
IsGiving (move.EndTold m) = Unit {0}
IsGiving m = ⊥

abbrev pub GivingMovesJoin : Type 0
GivingMovesJoin = (m : Move) → IsGiving m → Joins m

-- moves by which a tunnel is made, or comes open
abbrev pub IsOpening : Move → Type 0
IsOpening (move.Opened m) = Unit {0}
IsOpening (move.Accepted m) = Unit {0}
IsOpening (move.Connected m) = Unit {0}
IsOpening (move.Confirmed m) = Unit {0}
IsOpening m = ⊥

abbrev pub OpeningMovesJoin : Type 0
OpeningMovesJoin = (m : Move) → IsOpening m → Joins m

-- moves by which a tunnel is closed, or removed
abbrev pub IsEnding : Move → Type 0
IsEnding (move.Cleared i booked) = Unit {0}
IsEnding (move.Closed m) = Unit {0}
IsEnding (move.Rejected m) = Unit {0}
IsEnding m = ⊥

abbrev pub EndingMovesJoin : Type 0
EndingMovesJoin = (m : Move) → IsEnding m → Joins m

-- moves of calls: one is added, or ends without a word, or the tunnel takes a letter about one
abbrev pub IsOfCall : Move → Type 0
IsOfCall (move.Added m) = Unit {0}
IsOfCall (move.Replied m) = Unit {0}
IsOfCall (move.FirstUp m) = Unit {0}
IsOfCall (move.SecondUp m) = Unit {0}
IsOfCall (move.EndHeard m) = Unit {0}
IsOfCall (move.EndSilent m) = Unit {0}
IsOfCall m = ⊥

abbrev pub CallMovesJoin : Type 0
CallMovesJoin = (m : Move) → IsOfCall m → Joins m

-- moves by which a tunnel takes a letter that is about none of its calls, and of which no tunnel is opened or closed
abbrev pub IsTaking : Move → Type 0
IsTaking (move.TookPlain m) = Unit {0}
IsTaking m = ⊥

abbrev pub TakingMovesJoin : Type 0
TakingMovesJoin = (m : Move) → IsTaking m → Joins m

-- moves of recoveries: an attempt of the other end is answered, and either end resets its tunnel
abbrev pub IsOfRecovery : Move → Type 0
IsOfRecovery (move.Froze m) = Unit {0}
IsOfRecovery m = ⊥

abbrev pub RecoveryMovesJoin : Type 0
RecoveryMovesJoin = (m : Move) → IsOfRecovery m → Joins m
