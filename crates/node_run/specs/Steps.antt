-- A step of a node's end with its store on a disk.
use Rattle.std.specs.Prelude.{⊤, ◌≡◌, ℕ, ◌+◌, ◌^◌, ◌-◌, min, Bool, true, false, List, count_by, Option, Ok, Err}
use Rattle.disk_core.specs.Disk.{Held}
use Rattle.checkpoint_journal.specs.State.{HasRoom}
use Rattle.end_model.specs.declared.event.Event.{Event}
use Rattle.end_model.specs.Access.{serves}
use Rattle.end_model.specs.Contents.{contents_of}
use Rattle.end_model.specs.End.{Stepped, step}
use Rattle.stored_ends.specs.Cores.{end_step}
use Rattle.end_store.specs.declared.store.StoreStop.{StoreStop}
use Rattle.end_store.specs.Stored.{Stored}
use Rattle.stored_ends.specs.Steps.{LacStored, LnsStored, StepsOnDisk}
use Rattle.port_events.specs.declared.end.Event.{Event as Waiting}
use Rattle.port_events.specs.declared.end.Event.TheVariants as waiting
use Rattle.port_events.specs.declared.end.Out.{Out as Going}
use Rattle.port_events.specs.declared.end.Out.TheVariants as going
use Rattle.node_run.specs.declared.end.NodeEnd.{NodeEnd}
use Rattle.node_run.specs.declared.end.NodeEnd.TheVariants.{Lac, Lns}
use Rattle.node_run.specs.declared.end.NodeStop.{NodeStop}
use Rattle.node_run.specs.declared.end.NodeStop.TheVariants.{Store, Unsent}
use Rattle.node_run.specs.declared.lending.Counts.{Counts}
use Rattle.node_notes.specs.Texts.{notes_text}
use Rattle.node_run.specs.Events.{event_of}
use Rattle.node_run.specs.Logs.{Sunk, Noted}
use Rattle.node_run.specs.Outs.{lac_outs, lns_outs}

-- the store of an end
abbrev pub store_of : NodeEnd → Stored
store_of (Lac s) = s.store
store_of (Lns s) = s.store

-- what the step of the definitions gives to the ports
abbrev pub outs_of : NodeEnd → ℕ → List ℕ → Event → List Going
outs_of (Lac s) moment block ev = lac_outs (serves s.lac moment block ev)
outs_of (Lns s) moment block ev = lns_outs (step s.lns moment block ev)

-- and what an operator is told of it
abbrev pub lines_by : Stepped → List ℕ
lines_by s = notes_text s.moves s.outputs

abbrev pub lines_of : NodeEnd → ℕ → List ℕ → Event → List ℕ
lines_of (Lac s) moment block ev = lines_by (end_step (serves s.lac moment block ev))
lines_of (Lns s) moment block ev = lines_by (step s.lns moment block ev)

module _ {D : Type 0} (holds : D → Option Held) (reach calls_left faults : D → ℕ) (disk now : D) (moment : ℕ) (block : List ℕ) (ev : Event) where
  -- a LAC made the step of the definitions, and all that it leaves was committed before
  pub record LacMakes (before after : LacStored) : Type 0 where
    pub lac : after.lac ≡ (serves before.lac moment block ev).lac
    pub on_disk : StepsOnDisk {T = ⊤} holds reach calls_left faults (contents_of before.lac.end (end_step (serves before.lac moment block ev))) before.store after.store disk now (Ok tt)

  -- it made none, and this is why
  pub record LacStays (stop : StoreStop) (before after : LacStored) : Type 0 where
    pub lac : after.lac ≡ before.lac
    pub on_disk : StepsOnDisk {T = ⊤} holds reach calls_left faults (contents_of before.lac.end (end_step (serves before.lac moment block ev))) before.store after.store disk now (Err stop)

  -- so an LNS
  pub record LnsMakes (before after : LnsStored) : Type 0 where
    pub lns : after.lns ≡ (step before.lns moment block ev).end
    pub on_disk : StepsOnDisk {T = ⊤} holds reach calls_left faults (contents_of before.lns (step before.lns moment block ev)) before.store after.store disk now (Ok tt)

  pub record LnsStays (stop : StoreStop) (before after : LnsStored) : Type 0 where
    pub lns : after.lns ≡ before.lns
    pub on_disk : StepsOnDisk {T = ⊤} holds reach calls_left faults (contents_of before.lns (step before.lns moment block ev)) before.store after.store disk now (Err stop)

  abbrev pub Makes : NodeEnd → NodeEnd → Type 0
  Makes (Lac before) (Lac after) = LacMakes before after
  Makes (Lac before) (Lns after) = ⊥
  Makes (Lns before) (Lac after) = ⊥
  Makes (Lns before) (Lns after) = LnsMakes before after

  abbrev pub Stays : StoreStop → NodeEnd → NodeEnd → Type 0
  Stays stop (Lac before) (Lac after) = LacStays stop before after
  Stays stop (Lac before) (Lns after) = ⊥
  Stays stop (Lns before) (Lac after) = ⊥
  Stays stop (Lns before) (Lns after) = LnsStays stop before after

  -- Why nothing of a step went out: its end made none; or it made the step, and memory was wanting for what it gives.
  abbrev pub Halts : NodeStop → NodeEnd → NodeEnd → Type 0
  Halts (Store stop) before after = Stays stop before after
  Halts Unsent before after = Makes before after

-- of a step that wasn't made the log isn't told
abbrev pub HaltNoted : NodeStop → List ℕ → Sunk → Sunk → Type 0
HaltNoted (Store stop) lines old new = new ≡ old
HaltNoted Unsent lines old new = Noted lines old new

-- ---- a node between its ports

-- an end, its disk, what the node counts, and what its log took
pub record Running (D : Type 0) : Type 0 where
  pub end : NodeEnd
  pub disk : D
  pub counts : Counts
  pub log : Sunk

abbrev pub running : {D : Type 0} → NodeEnd → D → Counts → Sunk → Running D
running end disk counts log = record { end = end; disk = disk; counts = counts; log = log }

-- a count stands still at its type's end
abbrev pub more : ℕ → ℕ → ℕ
more n k = min (n + k) (2 ^ 64 - 1)

-- the counts after an event: a tick ends a turn, and a tunnel is opened without taking anything
abbrev pub counts_after : Counts → Waiting → Counts
counts_after c (waiting.Datagram peer bytes) = record c { taken = more c.taken 1 }
counts_after c (waiting.Frame bytes) = record c { taken = more c.taken 1 }
counts_after c (waiting.Lower session frame) = record c { taken = more c.taken 1 }
counts_after c waiting.Open = c
counts_after c waiting.Tick = record c { turns = more c.turns 1 }

abbrev pub is_datagram : Going → Bool
is_datagram (going.Send peer bytes) = true
is_datagram _ = false

-- the counts with the datagrams among outputs, which are counted before they go out
abbrev pub with_sent : Counts → List Going → Counts
with_sent c outs = record c { sent = more c.sent (count_by is_datagram outs) }

-- the counts after a step, with its outputs
abbrev pub counted : Counts → Waiting → List Going → Counts
counted c ev outs = with_sent (counts_after c ev) outs

-- the room that was made on the disk is still there, unless the store is halted
abbrev pub IsReady : {D : Type 0} → (D → ℕ) → (D → ℕ) → NodeEnd → D → Type 0
IsReady reach calls_left end disk = (store_of end).journal.halted ≡ false → HasRoom reach calls_left (store_of end).journal disk

module _ {D : Type 0} (holds : D → Option Held) (reach calls_left faults : D → ℕ) where
  -- a step of a node: that of the definitions, on its disk
  pub record NodeSteps (before : Running D) (moment : ℕ) (block : List ℕ) (ev : Waiting) (outs : List Going) (after : Running D) : Type 0 where
    pub makes : Makes holds reach calls_left faults before.disk after.disk moment block (event_of ev) before.end after.end
    pub outs_are : outs ≡ outs_of before.end moment block (event_of ev)
    pub counts_are : after.counts ≡ counted before.counts ev outs
    pub noted : Noted (lines_of before.end moment block (event_of ev)) before.log after.log

  -- nothing of a step went out
  pub record NodeStops (before : Running D) (moment : ℕ) (block : List ℕ) (ev : Waiting) (stop : NodeStop) (after : Running D) : Type 0 where
    pub halts : Halts holds reach calls_left faults before.disk after.disk moment block (event_of ev) stop before.end after.end
    pub counts_are : after.counts ≡ before.counts
    pub noted : HaltNoted stop (lines_of before.end moment block (event_of ev)) before.log after.log
