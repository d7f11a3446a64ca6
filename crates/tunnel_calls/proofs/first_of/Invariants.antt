use Rattle.std.proofs.Common.{◌≡◌, drop, find}
use Rattle.id_table.specs.Ids.{at}
use Rattle.end_model.specs.Asking.{is_call_of}
use Rattle.tunnel_calls.proofs.first_of.Given as goal

abbrev pub invariant-loop-session : goal.invariant-loop-session
invariant-loop-session l = find (λ s. is_call_of l.remote (at l.calls.entries s)) (drop l.session-index l.sessions) ≡ find (λ s. is_call_of l.remote (at l.calls.entries s)) l.sessions
