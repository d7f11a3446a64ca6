use Rattle.std.proofs.Common.{Option, ap, ◌∙◌, subst}
use Rattle.end_model.specs.Tunnels.{Recovering}
use Rattle.tunnel_timers.specs.Due.{channel_due, calls_due, recovery_due, IsNoLater, bound_of}
use Rattle.tunnel_core.specs.Cores.{Core}
use Rattle.tunnel_core.proofs.Due.{earliest_of}
use Rattle.tunnel_core.proofs.planning.TunnelCore.due.Goals as goal

pub returns : goal.returns
returns c =
    let core = c.args.self.now in
    earliest_of c.channel_due.result c.due.result c.min-main.result c.recovery_due.result c.min.result c.mode.result core.control core.calls.entries core.recovery
    c.mode.ensures
    (c.channel_due.ensures ∙ ap (λ (k : Core). bound_of (channel_due c.mode.result k.control)) c.self.view_is)
    (subst (λ (k : Core). IsNoLater c.due.result (calls_due k.calls.entries)) c.self.view_is c.due.ensures)
    c.min-main.ensures
    (c.recovery_due.ensures ∙ ap (λ (r : Option Recovering). bound_of (recovery_due r)) c.recovery.ensures)
    c.min.ensures
