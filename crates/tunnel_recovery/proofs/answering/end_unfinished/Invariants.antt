use Rattle.std.proofs.Common.{◌≡◌, drop}
use Rattle.end_model.specs.Recovering.{ends_unfinished}
use Rattle.tunnel_recovery.proofs.answering.end_unfinished.Given as goal

abbrev pub invariant-loop-session : goal.invariant-loop-session
invariant-loop-session l = ends_unfinished (drop l.session-index l.sessions) l.calls.entries l.turn ≡ ends_unfinished l.sessions l.calls.entries l.fn.turn
