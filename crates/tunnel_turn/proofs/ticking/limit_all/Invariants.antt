use Rattle.std.proofs.Common.{◌≡◌, drop}
use Rattle.end_model.specs.Ticking.{limits_all}
use Rattle.tunnel_turn.proofs.ticking.limit_all.Given as goal

abbrev pub invariant-loop-session : goal.invariant-loop-session
invariant-loop-session l = limits_all l.role l.letters.letters (drop l.session-index l.sessions) l.calls.entries l.turn ≡ limits_all l.role l.letters.letters l.sessions l.calls.entries l.fn.turn
