use Rattle.std.proofs.Common.{◌≡◌, ◌<◌, ◌^◌, drop}
use Rattle.std.specs.Prelude.{min}
use Rattle.tunnel_timers.specs.Due.{bound_of, call_due, earliest_at}
use Rattle.tunnel_calls.proofs.earliest_due.Given as goal

abbrev pub invariant-loop-session : goal.invariant-loop-session
invariant-loop-session l =
    (l.due < 2 ^ 64) ×
    (min l.due (bound_of (earliest_at (λ c. call_due c.0 c.1) l.table.entries (drop l.session-index l.sessions)))
    ≡ bound_of (earliest_at (λ c. call_due c.0 c.1) l.table.entries l.sessions))
