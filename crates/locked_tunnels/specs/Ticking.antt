-- A tunnel for which nothing is due.
use Rattle.std.specs.Prelude.{◌≡◌, ℕ, List}
use Rattle.end_model.specs.declared.event.Event.TheVariants.{Tick}
use Rattle.end_model.specs.declared.tunnel.Config.{Config}
use Rattle.end_model.specs.Tunnels.{Drawing, turn_in}
use Rattle.end_model.specs.Recovering.{RecoveryTurn}
use Rattle.step_hub.specs.Hubs.{lent_env}
use Rattle.locked_tunnels.specs.Kept.{Known}
use Rattle.locked_tunnels.specs.Turns.{turn_by, turned}

-- a turn in which nothing is done
abbrev pub idle_turn : Known → Drawing → ℕ → List ℕ → RecoveryTurn
idle_turn k ids moment block = record { turn = turn_in k.tunnel (lent_env ids moment block); recovery = k.tunnel.recovery }

-- its tick at a moment is such a turn, whatever its end is told and draws from, and leaves the tunnel that very tunnel
pub record TicksIdly (k : Known) (moment : ℕ) : Type 0 where
  pub idle : (c : Config) (ids : Drawing) (block : List ℕ) → turn_by k c ids moment block Tick ≡ idle_turn k ids moment block
  pub stays : (ids : Drawing) (block : List ℕ) → (turned (idle_turn k ids moment block) k).tunnel ≡ k.tunnel
