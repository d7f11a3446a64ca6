use Rattle.std.proofs.Common.{◌≡◌, drop}
use Rattle.end_model.specs.Ringing.{requests_all}
use Rattle.tunnel_turn.proofs.ringing.request_all.Given as goal

abbrev pub invariant-loop-session : goal.invariant-loop-session
invariant-loop-session l = requests_all l.role l.config (drop l.session-index l.sessions) l.calls.entries l.turn ≡ requests_all l.role l.config l.sessions l.calls.entries l.fn.turn
