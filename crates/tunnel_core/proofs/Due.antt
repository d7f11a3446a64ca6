-- When something is due in a tunnel, as its code counts it.
use Rattle.std.proofs.Common.{◌≡◌, ℕ, ◌<◌, ◌≤◌, true, List, Option, Some, sym, subst, arith}
use Rattle.std.specs.Prelude.{min}
use Rattle.end_model.specs.declared.tunnel.Mode.{Mode}
use Rattle.end_model.specs.declared.tunnel.Call.{Call}
use Rattle.end_model.specs.declared.tunnel.Control.{Control}
use Rattle.end_model.specs.Tunnels.{Turn, Recovering, mode_of}
use Rattle.end_model.specs.Recovering.{recovery_ticks}
use Rattle.due_laws.specs.Ticks.{EarlyRecoveriesStay}
use Rattle.tunnel_timers.specs.Due.{earlier, channel_due, calls_due, due_of, recovery_due, IsNoLater, bound_of}
use Rattle.tunnel_timers.specs.Moments.{below_bound, bound_earlier}
use Rattle.tunnel_timers.specs.Bounds.{bound_is_no_later, no_later_less}
use Rattle.tunnel_core.specs.Cores.{beside}

-- the least of what is due for the tunnel, its calls and its recovery tunnel is a bound
pub earliest_of : (channel due main recovered bound : ℕ) (m : Mode) (c : Control) (calls : List (ℕ × Call)) (recovery : Option Recovering)
    → m ≡ mode_of recovery → channel ≡ bound_of (channel_due m c) → IsNoLater due (calls_due calls) → main ≡ min channel due
    → recovered ≡ bound_of (recovery_due recovery) → bound ≡ min main recovered
    → IsNoLater bound (earlier (due_of (mode_of recovery) c calls) (recovery_due recovery))
earliest_of channel due main recovered bound m c calls recovery mode_is channel_is all main_is recovered_is bound_is =
    let first : bound ≤ bound_of (channel_due m c) = omega (arith, channel_is, main_is, bound_is) in
    let own : bound ≤ due = omega (arith, main_is, bound_is) in
    let last : bound ≤ bound_of (recovery_due recovery) = omega (arith, recovered_is, bound_is) in
    let main_by : IsNoLater bound (due_of m c calls) =
    bound_earlier bound (channel_due m c) (calls_due calls)
    (no_later_less bound (bound_of (channel_due m c)) (channel_due m c) first (bound_is_no_later (channel_due m c)))
    (no_later_less bound due (calls_due calls) own all) in
    bound_earlier bound (due_of (mode_of recovery) c calls) (recovery_due recovery)
    (subst (λ (k : Mode). IsNoLater bound (due_of k c calls)) mode_is main_by)
    (no_later_less bound (bound_of (recovery_due recovery)) (recovery_due recovery) last (bound_is_no_later (recovery_due recovery)))

-- before its recovery tunnel is due, that one stays
pub stays_early : (calls : List (ℕ × Call)) (recovery : Recovering) (t : Turn) (due : ℕ) → due ≡ bound_of (recovery_due (Some recovery)) → t.on.moment < due → EarlyRecoveriesStay
    → beside (Some recovery) t ≡ recovery_ticks calls (Some recovery) t
stays_early calls recovery t due due_is lt early =
    let bound : IsNoLater due (recovery_due (Some recovery)) = subst (λ d. IsNoLater d (recovery_due (Some recovery))) (sym due_is) (bound_is_no_later (recovery_due (Some recovery))) in
    sym (early calls (Some recovery) t (below_bound due t.on.moment (recovery_due (Some recovery)) bound lt))
