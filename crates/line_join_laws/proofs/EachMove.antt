-- Each move of a step is in one of the groups of moves that are joined.
use Rattle.end_model.specs.declared.moves.Move.{Move}
use Rattle.end_model.specs.declared.moves.Move.TheVariants as move
use Rattle.join_laws.specs.Moves.{StillMovesJoin, GivingMovesJoin, OpeningMovesJoin, EndingMovesJoin, CallMovesJoin}
use Rattle.join_laws.specs.Moves.{TakingMovesJoin, RecoveryMovesJoin}
use Rattle.join_laws.specs.Roles.{JoinsByRoles, RefusingMovesJoin}
use Rattle.join_laws.specs.Steps.{Joins}
use Rattle.recovery_join_laws.specs.Moves.{ResetsJoin, QueriesJoin}
use Rattle.closing_join_laws.specs.Moves.{DeclinesJoin, StopsJoin}
use Rattle.line_join_laws.specs.Chains.{MovesJoin}

-- the laws of the groups
pub record MoveLaws : Type 0 where
  pub still : StillMovesJoin
  pub giving : GivingMovesJoin
  pub opening : OpeningMovesJoin
  pub ending : EndingMovesJoin
  pub call : CallMovesJoin
  pub taking : TakingMovesJoin
  pub recovery : RecoveryMovesJoin
  pub refusing : RefusingMovesJoin
  pub resets : ResetsJoin
  pub queries : QueriesJoin
  pub declines : DeclinesJoin
  pub stops : StopsJoin

-- whatever the roles are
any_roles : (m : Move) → Joins m → JoinsByRoles m
any_roles m joins w h n node sender moment ev x d k j roles = joins w h n node sender moment ev x d k j

pub moves_join : MoveLaws → MovesJoin
moves_join laws (move.Opened m) is = any_roles (move.Opened m) (laws.opening (move.Opened m) tt)
moves_join laws (move.Accepted m) is = any_roles (move.Accepted m) (laws.opening (move.Accepted m) tt)
moves_join laws (move.Connected m) is = any_roles (move.Connected m) (laws.opening (move.Connected m) tt)
moves_join laws (move.Confirmed m) is = any_roles (move.Confirmed m) (laws.opening (move.Confirmed m) tt)
moves_join laws (move.Added m) is = any_roles (move.Added m) (laws.call (move.Added m) tt)
moves_join laws (move.Requested m) is = any_roles (move.Requested m) (laws.giving (move.Requested m) tt)
moves_join laws (move.Replied m) is = any_roles (move.Replied m) (laws.call (move.Replied m) tt)
moves_join laws (move.FirstUp m) is = any_roles (move.FirstUp m) (laws.call (move.FirstUp m) tt)
moves_join laws (move.SecondUp m) is = any_roles (move.SecondUp m) (laws.call (move.SecondUp m) tt)
moves_join laws (move.Refused m) is = laws.refusing (move.Refused m) tt
moves_join laws (move.EndTold m) is = any_roles (move.EndTold m) (laws.giving (move.EndTold m) tt)
moves_join laws (move.EndHeard m) is = any_roles (move.EndHeard m) (laws.call (move.EndHeard m) tt)
moves_join laws (move.EndSilent m) is = any_roles (move.EndSilent m) (laws.call (move.EndSilent m) tt)
moves_join laws (move.Declined m) is = any_roles (move.Declined m) (laws.declines (move.Declined m) tt)
moves_join laws (move.Closed m) is = any_roles (move.Closed m) (laws.ending (move.Closed m) tt)
moves_join laws (move.Rejected m) is = any_roles (move.Rejected m) (laws.ending (move.Rejected m) tt)
moves_join laws (move.ClosedBy m) is = any_roles (move.ClosedBy m) (laws.stops (move.ClosedBy m) tt)
moves_join laws (move.Cleared i booked) is = any_roles (move.Cleared i booked) (laws.ending (move.Cleared i booked) tt)
moves_join laws (move.Greeted m) is = any_roles (move.Greeted m) (laws.giving (move.Greeted m) tt)
moves_join laws (move.TookPlain m) is = any_roles (move.TookPlain m) (laws.taking (move.TookPlain m) tt)
moves_join laws (move.NrRead m) is = any_roles (move.NrRead m) (laws.still (move.NrRead m) tt)
moves_join laws (move.LetGo m) is = any_roles (move.LetGo m) (laws.still (move.LetGo m) tt)
moves_join laws (move.Repeated m) is = any_roles (move.Repeated m) (laws.still (move.Repeated m) tt)
moves_join laws (move.Quiet i) is = any_roles (move.Quiet i) (laws.still (move.Quiet i) tt)
moves_join laws (move.Negotiated m) is = any_roles (move.Negotiated m) (laws.still (move.Negotiated m) tt)
moves_join laws (move.Counted m) is = any_roles (move.Counted m) (laws.still (move.Counted m) tt)
moves_join laws (move.FrameSent m) is = any_roles (move.FrameSent m) (laws.still (move.FrameSent m) tt)
moves_join laws (move.FrameUp m) is = any_roles (move.FrameUp m) (laws.still (move.FrameUp m) tt)
moves_join laws (move.Restored m) is = absurd is
moves_join laws (move.Forgot m) is = absurd is
moves_join laws (move.Froze m) is = any_roles (move.Froze m) (laws.recovery (move.Froze m) tt)
moves_join laws (move.ResetAttempting m) is = any_roles (move.ResetAttempting m) (laws.resets (move.ResetAttempting m) tt)
moves_join laws (move.ResetAnswering m) is = any_roles (move.ResetAnswering m) (laws.resets (move.ResetAnswering m) tt)
moves_join laws (move.Queried m) is = any_roles (move.Queried m) (laws.queries (move.Queried m) tt)
moves_join laws (move.AnsweredQuery m) is = any_roles (move.AnsweredQuery m) (laws.queries (move.AnsweredQuery m) tt)
moves_join laws (move.TookAnswer m) is = any_roles (move.TookAnswer m) (laws.queries (move.TookAnswer m) tt)
moves_join laws (move.RecoveryWentOn i) is = any_roles (move.RecoveryWentOn i) (laws.still (move.RecoveryWentOn i) tt)
moves_join laws (move.RecoveryEnded i) is = any_roles (move.RecoveryEnded i) (laws.still (move.RecoveryEnded i) tt)
moves_join laws (move.Ignored i) is = any_roles (move.Ignored i) (laws.still (move.Ignored i) tt)
