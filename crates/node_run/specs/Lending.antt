-- A node's end, its disk, its counts and its log that are lent to a turn.
use Rattle.std.specs.Prelude.{◌≡◌, ℕ, List, Option}
use Rattle.disk_core.specs.Disk.{Held}
use Rattle.port_events.specs.declared.end.Event.{Event}
use Rattle.port_events.specs.declared.end.Out.{Out}
use Rattle.node_run.specs.declared.end.NodeStop.{NodeStop}
use Rattle.node_run.specs.declared.lending.Lent.{Lent}
use Rattle.node_run.specs.Logs.{sunk}
use Rattle.node_run.specs.Steps.{Running, running, NodeSteps, NodeStops}

-- what is lent are the same four: whoever lent them has in the end what they are then
pub record SameLoans {D K : Type 0} (before after : Lent D K) : Type 0 where
  pub end : after.end ≡ record before.end { now = after.end.now }
  pub disk : after.disk ≡ record before.disk { now = after.disk.now }
  pub counts : after.counts ≡ record before.counts { now = after.counts.now }
  pub log : after.log ≡ record before.log { now = after.log.now }

module _ {D K : Type 0} (failed : K → ℕ) (took : K → Option (List ℕ)) where
  -- what they are now
  abbrev pub lent : Lent D K → Running D
  lent l = running l.end.now l.disk.now l.counts.now (sunk (failed l.log.now) (took l.log.now))

  module _ (holds : D → Option Held) (reach calls_left faults : D → ℕ) where
    pub record LentSteps (before : Lent D K) (moment : ℕ) (block : List ℕ) (ev : Event) (outs : List Out) (after : Lent D K) : Type 0 where
      pub steps : NodeSteps holds reach calls_left faults (lent before) moment block ev outs (lent after)
      pub same : SameLoans before after

    pub record LentStops (before : Lent D K) (moment : ℕ) (block : List ℕ) (ev : Event) (stop : NodeStop) (after : Lent D K) : Type 0 where
      pub stops : NodeStops holds reach calls_left faults (lent before) moment block ev stop (lent after)
      pub same : SameLoans before after
