use Rattle.std.proofs.Common.{◌≡◌, drop}
use Rattle.end_model.specs.Turn.{ends_all}
use Rattle.tunnel_turn.proofs.turn.Turn.end_all.Given as goal

abbrev pub invariant-loop-session : goal.invariant-loop-session
invariant-loop-session l =
    (ends_all (drop l.session-index l.sessions) l.self ≡ ends_all l.sessions l.fn.self) × (l.self.control ≡ l.fn.self.control)
