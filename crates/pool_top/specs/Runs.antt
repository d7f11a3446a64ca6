-- The run of a plan by a pool, and why it ends early.
use Rattle.std.specs.Prelude.{◌≡◌, ◌⊎◌, ◌<◌, ℕ, Bool, List, Option, Some, None, option_map, IfSome, Result, Ok, Err}
use Rattle.rand_core.specs.Stream.{fill_bytes}
use Rattle.wire_base.specs.Causes.{Rose}
use Rattle.disk_core.specs.Disk.{Held}
use Rattle.port_traits.specs.Packets.{Moments, moment, passed}
use Rattle.port_events.specs.declared.end.Out.{Out}
use Rattle.port_events.specs.declared.giving.TurnFault.{TurnFault}
use Rattle.port_events.specs.Giving.{IsCut}
use Rattle.port_events.specs.Feeding.{Given, Goes}
use Rattle.shared_store.specs.Stops.{HoldsRecords}
use Rattle.held_ports.specs.Around.{Around}
use Rattle.pool_turns.specs.Laws.{datagrams}
use Rattle.worker_pool.specs.Tallies.{capped}
use Rattle.worker_pool.specs.declared.tally.Tally.{Tally}
use Rattle.node_words.specs.Plans.{Planned}
use Rattle.node_run.specs.declared.end.NodeEnd.{NodeEnd}
use Rattle.node_run.specs.declared.end.NodeStop.{NodeStop}
use Rattle.node_run.specs.declared.faults.NodeFault.{NodeFault}
use Rattle.node_run.specs.declared.faults.NodeFault.TheVariants as node_fault
use Rattle.node_run.specs.Faults.{Faults}
use Rattle.node_run.specs.Logs.{Sunk}
use Rattle.node_run.specs.Opening.{NodeOpens}
use Rattle.node_top.specs.declared.exit.NodeExit.{NodeExit}
use Rattle.node_top.specs.declared.exit.NodeExit.TheVariants as exits
use Rattle.node_top.specs.Runs.{config_of, of_turn, of_serving, StayedShut}
use Rattle.node_pool.specs.Pools.{RanPool}

-- ---- why a run ends early

-- what a pool leaves: its tally, or how it ended
abbrev pub answer_of : Option NodeFault → Tally → Result Tally NodeExit
answer_of None tally = Ok tally
answer_of (Some fault) tally = Err (of_serving fault)

-- A fault of the disk or of a port is told only where the count of that object rose. No count of a port rose but that of the one that is told,
-- and none at all where none is told; beside a port's the disk's may have risen. A run tells nothing of words or of the sink.
abbrev pub RunBlames : Faults → Faults → Result Tally NodeExit → Type 0
RunBlames old new (Ok tally) = new ≡ old
RunBlames old new (Err exits.Ok) = ⊥
RunBlames old new (Err exits.Usage) = ⊥
RunBlames old new (Err exits.WriteFault) = ⊥
RunBlames old new (Err (exits.NotJournal at)) = new ≡ old
RunBlames old new (Err exits.StoreFault) = Rose old.disk new.disk × (new ≡ record old { disk = new.disk })
RunBlames old new (Err exits.LinkFault) = Rose old.link new.link × (new ≡ record old { disk = new.disk; link = new.link })
RunBlames old new (Err exits.EtherFault) = Rose old.ether new.ether × (new ≡ record old { disk = new.disk; ether = new.ether })
RunBlames old new (Err exits.UplinkFault) = Rose old.up new.up × (new ≡ record old { disk = new.disk; up = new.up })
RunBlames old new (Err (exits.StoreFull records)) = new ≡ old
RunBlames old new (Err exits.NoMemory) = new ≡ old

-- once the end was opened, a store is full only where the journal on the disk has so many records, and they are so many that those of one turn
-- may not fit
abbrev pub TellsFull : NodeFault → Option Held → Type 0
TellsFull node_fault.StoreFault held = Unit {0}
TellsFull node_fault.LinkFault held = Unit {0}
TellsFull node_fault.EtherFault held = Unit {0}
TellsFull node_fault.UplinkFault held = Unit {0}
TellsFull (node_fault.StoreFull records) held = (1032192 < records) × HoldsRecords records held
TellsFull node_fault.NoMemory held = Unit {0}

-- ---- a run

-- what is around an end once it was opened: the clock was read once, and the generator's first block was taken
abbrev pub opened_in : Around → Around
opened_in a = record a { stream = (fill_bytes 16 a.stream).1; clock = option_map passed a.clock }

-- The clock is read and the end is opened over what the disk held, at that moment and with the generator's first block. The log is told of that.
pub record Opened {D : Type 0} (holds : D → Option Held) (reach calls_left faults : D → ℕ) (p : Planned) (disk : D) (log log' : Sunk) (outs : List Out) (old : Around) : Type 0 where
  -- the moment that was read
  pub begun : ℕ
  pub read : IfSome old.clock (λ (ms : Moments). begun ≡ moment ms)
  pub opened : NodeEnd
  pub mid : D
  pub opens : NodeOpens holds reach calls_left faults p.identity.lac (config_of p) begun (fill_bytes 16 old.stream).0 disk mid log log' opened outs

-- what the start of an end gives goes out, and then a pool of it ran, to its end or as far as it came
pub record GivesAndRuns (fault : Option NodeFault) (opens : Bool) (turns : ℕ) (tally : Tally) (outs : List Out) (old new : Around) : Type 0 where
  pub mid : Given
  pub gave : Goes old.given mid outs
  pub ran : RanPool fault opens turns tally (record old { given = mid }) new

-- a part of what the start gives went out: at the next output its port failed
pub record GivesPart {F : Type 0} (fault : TurnFault F) (outs : List Out) (old new : Around) : Type 0 where
  pub part : List Out
  pub cut : IsCut fault outs part
  pub gave : Goes old.given new.given part
  pub rest : new ≡ record old { given = new.given }

-- What the rest of a run comes to once the end is open: it was made to its end, and as many items were taken as the link gave datagrams; or not
-- all that the start gives went out, or the pool ended early.
pub record RanOut (opens : Bool) (turns : ℕ) (outs : List Out) (tally : Tally) (old new : Around) : Type 0 where
  pub runs : GivesAndRuns None opens turns tally outs old new
  pub taken : tally.taken ≡ capped (datagrams runs.ran.ran.ts)

abbrev pub BreaksOff : Bool → ℕ → List Out → NodeExit → Option Held → Around → Around → Type 0
BreaksOff opens turns outs exit held old new =
    ((fault : TurnFault NodeStop) × (exit ≡ of_turn fault) × GivesPart fault outs old new)
    ⊎ ((fault : NodeFault) × (tally : Tally) × (exit ≡ of_serving fault) × TellsFull fault held × GivesAndRuns (Some fault) opens turns tally outs old new)

abbrev pub RanFrom : Bool → ℕ → List Out → Result Tally NodeExit → Option Held → Around → Around → Type 0
RanFrom opens turns outs (Ok tally) held old new = RanOut opens turns outs tally old new
RanFrom opens turns outs (Err exit) held old new = BreaksOff opens turns outs exit held old new

-- The run of a plan whose end was opened, to its end or as far as it came.
pub record Ran {D : Type 0} (holds : D → Option Held) (reach calls_left faults : D → ℕ) (p : Planned) (ran : Result Tally NodeExit) (disk now : D) (log log' : Sunk) (old new : Around) : Type 0 where
  pub outs : List Out
  pub opened : Opened holds reach calls_left faults p disk log log' outs old
  pub runs : RanFrom p.texts.opens p.numbers.turns outs ran (holds now) (opened_in old) new

-- The run of a plan: it was made to its end; or its end wasn't opened, or it ended early.
abbrev pub RanTo : {D : Type 0} → (D → Option Held) → (D → ℕ) → (D → ℕ) → (D → ℕ) → Planned → Result Tally NodeExit → D → D → Sunk → Sunk → Around → Around → Type 0
RanTo holds reach calls_left faults p (Ok tally) disk now log log' old new = Ran holds reach calls_left faults p (Ok tally) disk now log log' old new
RanTo holds reach calls_left faults p (Err exit) disk now log log' old new =
    StayedShut holds reach calls_left faults p exit disk now log log' old new ⊎ Ran holds reach calls_left faults p (Err exit) disk now log log' old new
