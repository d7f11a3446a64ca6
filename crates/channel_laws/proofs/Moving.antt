-- Each move of a step keeps what holds.
use Rattle.end_model.specs.declared.moves.Move.{Move}
use Rattle.end_model.specs.declared.moves.Move.TheVariants as move
use Rattle.step_laws.specs.Steps.{IsOfNoStart}
use Rattle.channel_laws.specs.Steps.{Keeps, StillMovesKeep, RecoveriesKeep, GivingMovesKeep, OpeningMovesKeep, TakingMovesKeep, BeginningMovesKeep}

pub record Kinds : Type 0 where
  pub still : StillMovesKeep
  pub recoveries : RecoveriesKeep
  pub giving : GivingMovesKeep
  pub opening : OpeningMovesKeep
  pub taking : TakingMovesKeep
  pub beginning : BeginningMovesKeep

pub each_keeps : Kinds → (m : Move) → IsOfNoStart m → Keeps m
each_keeps k (move.Opened m) start = k.beginning (move.Opened m) tt
each_keeps k (move.Accepted m) start = k.beginning (move.Accepted m) tt
each_keeps k (move.Declined m) start = k.beginning (move.Declined m) tt
each_keeps k (move.Connected m) start = k.opening (move.Connected m) tt
each_keeps k (move.Confirmed m) start = k.opening (move.Confirmed m) tt
each_keeps k (move.Rejected m) start = k.opening (move.Rejected m) tt
each_keeps k (move.Requested m) start = k.giving (move.Requested m) tt
each_keeps k (move.EndTold m) start = k.giving (move.EndTold m) tt
each_keeps k (move.Greeted m) start = k.giving (move.Greeted m) tt
each_keeps k (move.Queried m) start = k.giving (move.Queried m) tt
each_keeps k (move.Added m) start = k.taking (move.Added m) tt
each_keeps k (move.Replied m) start = k.taking (move.Replied m) tt
each_keeps k (move.Refused m) start = k.taking (move.Refused m) tt
each_keeps k (move.FirstUp m) start = k.taking (move.FirstUp m) tt
each_keeps k (move.SecondUp m) start = k.taking (move.SecondUp m) tt
each_keeps k (move.EndHeard m) start = k.taking (move.EndHeard m) tt
each_keeps k (move.TookPlain m) start = k.taking (move.TookPlain m) tt
each_keeps k (move.NrRead m) start = k.taking (move.NrRead m) tt
each_keeps k (move.AnsweredQuery m) start = k.taking (move.AnsweredQuery m) tt
each_keeps k (move.TookAnswer m) start = k.taking (move.TookAnswer m) tt
each_keeps k (move.Closed m) start = k.taking (move.Closed m) tt
each_keeps k (move.ClosedBy m) start = k.taking (move.ClosedBy m) tt
each_keeps k (move.Froze m) start = k.recoveries (move.Froze m) tt
each_keeps k (move.ResetAttempting m) start = k.recoveries (move.ResetAttempting m) tt
each_keeps k (move.ResetAnswering m) start = k.recoveries (move.ResetAnswering m) tt
each_keeps k (move.EndSilent m) start = k.still (move.EndSilent m) tt
each_keeps k (move.Cleared i booked) start = k.still (move.Cleared i booked) tt
each_keeps k (move.Quiet i) start = k.still (move.Quiet i) tt
each_keeps k (move.LetGo m) start = k.still (move.LetGo m) tt
each_keeps k (move.Repeated m) start = k.still (move.Repeated m) tt
each_keeps k (move.Negotiated m) start = k.still (move.Negotiated m) tt
each_keeps k (move.Counted m) start = k.still (move.Counted m) tt
each_keeps k (move.FrameSent m) start = k.still (move.FrameSent m) tt
each_keeps k (move.FrameUp m) start = k.still (move.FrameUp m) tt
each_keeps k (move.RecoveryWentOn i) start = k.still (move.RecoveryWentOn i) tt
each_keeps k (move.RecoveryEnded i) start = k.still (move.RecoveryEnded i) tt
each_keeps k (move.Ignored i) start = k.still (move.Ignored i) tt
each_keeps k (move.Restored m) start = absurd start
each_keeps k (move.Forgot m) start = absurd start
