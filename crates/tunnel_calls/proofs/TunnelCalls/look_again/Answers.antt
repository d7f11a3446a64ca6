use Rattle.std.proofs.Common.{ℕ, List, ap, sym, ◌∙◌, subst}
use Rattle.tunnel_timers.specs.Due.{IsNoLater, bound_of, call_due, calls_due, earliest_at}
use Rattle.tunnel_timers.specs.Bounds.{bound_is_no_later, earliest_is}
use Rattle.tunnel_calls.proofs.TunnelCalls.look_again.Goals as goal

pub invariant_of-self : goal.invariant_of-self
invariant_of-self c =
    let calls = c.self.inside.table.entries in
    let sessions = c.as_slice.ensures ∙ c.in-Ok.ensures.all in
    let due = c.earliest_due-self-inside.ensures
    ∙ ap (λ (ss : List ℕ). bound_of (earliest_at (λ c. call_due c.0 c.1) calls ss)) sessions
    ∙ ap bound_of (earliest_is (λ c. call_due c.0 c.1) calls c.self.invariant.0) in
    (c.self.invariant.0, c.self.invariant.1, c.self.invariant.2, c.self.invariant.3, subst (λ (d : ℕ). IsNoLater d (calls_due calls)) (sym due) (bound_is_no_later (calls_due calls)), c.self.invariant.5)
