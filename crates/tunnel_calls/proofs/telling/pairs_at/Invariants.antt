use Rattle.std.proofs.Common.{◌≡◌, ◌++◌, drop, flat_map}
use Rattle.id_table.specs.Ids.{at}
use Rattle.tunnel_calls.specs.Telling.{pairs_at}
use Rattle.tunnel_calls.proofs.telling.pairs_at.Given as goal

abbrev pub invariant-loop-session : goal.invariant-loop-session
invariant-loop-session l = l.pairs ++ flat_map (λ s. pairs_at s (at l.calls.entries s)) (drop l.session-index l.sessions) ≡ flat_map (λ s. pairs_at s (at l.calls.entries s)) l.sessions
