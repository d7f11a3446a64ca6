use Rattle.std.proofs.Common.{◌≡◌}
use Rattle.tunnel_core.proofs.planning.give_back.Given as goal

abbrev pub invariant-loop-session : goal.invariant-loop-session
invariant-loop-session l = l.calls.entries ≡ l.fn.calls.entries
