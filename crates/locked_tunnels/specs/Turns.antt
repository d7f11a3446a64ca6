-- What a turn of a tunnel is, what it leaves, and why one isn't made.
use Rattle.std.specs.Prelude.{◌≡◌, ◌≢◌, ℕ, ◌<◌, List, Option, Some, None}
use Rattle.std.specs.List.{AllByRecursion}
use Rattle.wire_base.specs.Causes.{Rose}
use Rattle.session_book.specs.declared.record.Record.{Record}
use Rattle.step_records.specs.Leaving.{leaves}
use Rattle.end_model.specs.declared.event.Event.{Event}
use Rattle.end_model.specs.declared.event.Event.TheVariants.{Tick}
use Rattle.end_model.specs.declared.out.Out.{Out}
use Rattle.end_model.specs.declared.tunnel.Config.{Config}
use Rattle.end_model.specs.Secrets.{uncovered_event}
use Rattle.end_model.specs.Tunnels.{Drawing, turn_in}
use Rattle.end_model.specs.Events.{tunnel_after}
use Rattle.end_model.specs.Recovering.{RecoveryTurn, recovering_turns}
use Rattle.tunnel_core.specs.Cores.{task_turn}
use Rattle.tunnel_core.specs.declared.task.Task.{Task}
use Rattle.step_hub.specs.Hubs.{lent_env}
use Rattle.step_hub.specs.declared.stop.Stop.{Stop}
use Rattle.step_hub.specs.declared.stop.Stop.TheVariants as stop
use Rattle.step_hub.specs.declared.stop.StepError.{StepError}
use Rattle.step_hub.specs.declared.stop.StepError.TheVariants as error
use Rattle.locked_tunnels.specs.Kept.{Known}

-- what a turn is told, and what it gives
pub record Told : Type 0 where
  pub event : Event
  pub moment : ℕ
  pub block : List ℕ
  pub outputs : List Out

-- it was told this
abbrev pub IsTurnOf : Event → ℕ → List ℕ → Told → Type 0
IsTurnOf ev moment block t = (t.event ≡ ev) × (t.moment ≡ moment) × (t.block ≡ block)

-- each is of a tick at this moment
abbrev pub AreTicks : ℕ → List ℕ → List Told → Type 0
AreTicks moment block ts = AllByRecursion (λ t. IsTurnOf Tick moment block t) ts

-- the turn of a tunnel about this, of an end that is told this and draws from these spaces
abbrev pub task_by : Known → Config → Drawing → ℕ → List ℕ → Task → RecoveryTurn
task_by k c ids moment block task = task_turn k.role c k.tunnel task (turn_in k.tunnel (lent_env ids moment block))

-- by an event: what is hidden by the end's secret is uncovered for it
abbrev pub turn_by : Known → Config → Drawing → ℕ → List ℕ → Event → RecoveryTurn
turn_by k c ids moment block ev =
    recovering_turns k.role c k.tunnel (uncovered_event c.secret ev) (turn_in k.tunnel (lent_env ids moment block))

-- the tunnel after a turn
abbrev pub turned : RecoveryTurn → Known → Known
turned r k = record k {
  tunnel = tunnel_after r.turn k.tunnel.letters k.tunnel.calls r.recovery;
  changes = r.turn.changes;
  gone = r.turn.cleared;
}

-- the records that it leaves, where the end drew from these spaces before
abbrev pub left_by : Drawing → RecoveryTurn → List Record
left_by ids r = leaves ids r.turn.ids r.turn.moves

-- Why a turn isn't made, of a hub that had this stop: how many records it had before and has after, its stop then, and the faults that it
-- had counted before and has after.
abbrev pub Refuses : StepError → Option Stop → ℕ → ℕ → Option Stop → ℕ → ℕ → Type 0
Refuses error.Halted None before after s faults now = ⊥
Refuses error.Halted (Some why) before after s faults now = (after ≡ before) × (s ≡ Some why) × (now ≡ faults)
Refuses error.NoMemory why before after s faults now = (why ≡ None) × (after ≡ before) × (s ≡ None) × (now ≡ faults)
Refuses error.StoreFault why before after s faults now = (why ≡ None) × (s ≡ Some stop.Fault) × Rose faults now
Refuses (error.StoreFull records) why before after s faults now =
    (why ≡ None) × (after ≡ before) × (records ≡ before) × (1032192 < before) × (s ≢ None) × (now ≡ faults)
