-- Before a tunnel is due its tick does nothing.
use Rattle.std.proofs.Common.{◌≡◌, ℕ, ◌<◌, List, ap, ◌∙◌}
use Rattle.std.proofs.lemmas.List.{append-nil}
use Rattle.wire_base.specs.declared.letter.Letter.{Letter}
use Rattle.end_model.specs.declared.event.Event.TheVariants.{Tick}
use Rattle.end_model.specs.declared.tunnel.Config.{Config}
use Rattle.end_model.specs.Tunnels.{Drawing, turn_in, mode_of}
use Rattle.end_model.specs.Recovering.{recovering_turns, recovery_ticks}
use Rattle.end_model.specs.Events.{turns, with_calls}
use Rattle.tunnel_timers.specs.Due.{due_of, recovery_due, tunnel_due, IsNoLater}
use Rattle.tunnel_timers.specs.Moments.{before_both, below_bound}
use Rattle.due_laws.specs.Ticks.{EarlyTurnsStay, EarlyRecoveriesStay}
use Rattle.step_hub.specs.Hubs.{lent_env}
use Rattle.locked_tunnels.specs.Kept.{Known}
use Rattle.locked_tunnels.specs.Turns.{turn_by, turned}
use Rattle.locked_tunnels.specs.Ticking.{idle_turn, TicksIdly}

is_idle : (k : Known) (c : Config) (ids : Drawing) (moment : ℕ) (block : List ℕ) (due : ℕ) → IsNoLater due (tunnel_due k.tunnel) → moment < due
    → EarlyTurnsStay → EarlyRecoveriesStay → turn_by k c ids moment block Tick ≡ idle_turn k ids moment block
unfolding recovering_turns turns
is_idle k c ids moment block due bound lt main line =
    let t = k.tunnel in
    let u = turn_in t (lent_env ids moment block) in
    let both = before_both moment (due_of (mode_of t.recovery) t.control t.calls) (recovery_due t.recovery) (below_bound due moment (tunnel_due t) bound lt) in
    ap (recovery_ticks t.calls t.recovery) (main k.role t.letters t.calls u both.0) ∙ line t.calls t.recovery u both.1

stays_so : (k : Known) (ids : Drawing) (moment : ℕ) (block : List ℕ) → (turned (idle_turn k ids moment block) k).tunnel ≡ k.tunnel
unfolding with_calls
stays_so k ids moment block = ap (λ (ls : List Letter). record k.tunnel { letters = ls }) (append-nil k.tunnel.letters)

pub ticks_idly : (k : Known) (moment due : ℕ) → IsNoLater due (tunnel_due k.tunnel) → moment < due → EarlyTurnsStay → EarlyRecoveriesStay → TicksIdly k moment
ticks_idly k moment due bound lt main line = record {
  idle = λ c ids block. is_idle k c ids moment block due bound lt main line;
  stays = λ ids block. stays_so k ids moment block;
}
