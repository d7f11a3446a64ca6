-- The run of a plan, and why it ends early.
use Rattle.std.specs.Prelude.{◌≡◌, ◌⊎◌, ℕ, Bool, List, Option, option_map, unwrap_or, IfSome, Result, Ok, Err}
use Rattle.rand_core.specs.Stream.{Stream, fill_bytes}
use Rattle.wire_base.specs.Causes.{Rose}
use Rattle.disk_core.specs.Disk.{Held}
use Rattle.port_traits.specs.Packets.{Moments, moment, passed}
use Rattle.port_events.specs.declared.end.Event.{Event}
use Rattle.port_events.specs.declared.end.Out.{Out}
use Rattle.port_events.specs.declared.giving.TurnFault.{TurnFault}
use Rattle.port_events.specs.declared.giving.TurnFault.TheVariants as turn
use Rattle.port_events.specs.Giving.{IsCut}
use Rattle.port_events.specs.Feeding.{Given, Goes}
use Rattle.port_turn.specs.Turns.{Waits, Asked}
use Rattle.port_turn.specs.Runs.{Node, node}
use Rattle.held_ports.specs.Around.{Around}
use Rattle.end_model.specs.declared.tunnel.Config.{Config}
use Rattle.end_model.specs.End.{new_config}
use Rattle.node_run.specs.Stops as opening
use Rattle.node_words.specs.Plans.{Planned}
use Rattle.node_run.specs.declared.end.NodeEnd.{NodeEnd}
use Rattle.node_run.specs.declared.end.NodeStop.{NodeStop}
use Rattle.node_run.specs.declared.faults.NodeFault.{NodeFault}
use Rattle.node_run.specs.declared.faults.NodeFault.TheVariants as node_fault
use Rattle.node_run.specs.declared.lending.Counts.{Counts}
use Rattle.node_run.specs.declared.opening.NodeUnopened.{NodeUnopened}
use Rattle.node_run.specs.declared.opening.NodeUnopened.TheVariants.{Shut, Unsent}
use Rattle.node_run.specs.Faults.{Faults, node_fault as fault_of}
use Rattle.node_run.specs.Logs.{Sunk}
use Rattle.node_run.specs.Opening.{NodeOpens, StaysShut}
use Rattle.node_run.specs.Serves.{Serves, EndsShort}
use Rattle.node_run.specs.Steps.{running, with_sent, NodeSteps, NodeStops}
use Rattle.node_top.specs.declared.exit.NodeExit.{NodeExit}
use Rattle.node_top.specs.declared.exit.NodeExit.TheVariants as exits

-- the configuration that a plan asks for: an LNS has no LNS
abbrev pub config_of : Planned → Config
config_of p = new_config p.identity.number p.identity.listen (unwrap_or p.identity.peer 0) p.texts.secret p.texts.hide

-- ---- why a run ends early

abbrev pub of_opening : NodeUnopened → NodeExit
of_opening (Shut (opening.NotJournal at)) = exits.NotJournal at
of_opening (Shut opening.StoreFault) = exits.StoreFault
of_opening (Shut (opening.StoreFull records)) = exits.StoreFull records
of_opening (Shut opening.NoMemory) = exits.NoMemory
of_opening Unsent = exits.NoMemory

abbrev pub of_turn : TurnFault NodeStop → NodeExit
of_turn turn.LinkFault = exits.LinkFault
of_turn turn.EtherFault = exits.EtherFault
of_turn turn.UplinkFault = exits.UplinkFault
of_turn turn.NoMemory = exits.NoMemory
of_turn (turn.Stopped stop) = exits.NoMemory

abbrev pub of_serving : NodeFault → NodeExit
of_serving node_fault.StoreFault = exits.StoreFault
of_serving node_fault.LinkFault = exits.LinkFault
of_serving node_fault.EtherFault = exits.EtherFault
of_serving node_fault.UplinkFault = exits.UplinkFault
of_serving (node_fault.StoreFull records) = exits.StoreFull records
of_serving node_fault.NoMemory = exits.NoMemory

-- a fault of the disk or of a port is told only where the count of that object rose, and the other counts stay; a run tells nothing of words
-- or of the sink
abbrev pub RunBlames : {T : Type 0} → Faults → Faults → Result T NodeExit → Type 0
RunBlames old new (Ok counts) = new ≡ old
RunBlames old new (Err exits.Ok) = ⊥
RunBlames old new (Err exits.Usage) = ⊥
RunBlames old new (Err exits.WriteFault) = ⊥
RunBlames old new (Err (exits.NotJournal at)) = new ≡ old
RunBlames old new (Err exits.StoreFault) = Rose old.disk new.disk × (new ≡ record old { disk = new.disk })
RunBlames old new (Err exits.LinkFault) = Rose old.link new.link × (new ≡ record old { link = new.link })
RunBlames old new (Err exits.EtherFault) = Rose old.ether new.ether × (new ≡ record old { ether = new.ether })
RunBlames old new (Err exits.UplinkFault) = Rose old.up new.up × (new ≡ record old { up = new.up })
RunBlames old new (Err (exits.StoreFull records)) = new ≡ old
RunBlames old new (Err exits.NoMemory) = new ≡ old

-- ---- a run

abbrev pub no_counts : Counts
no_counts = record { turns = 0; taken = 0; sent = 0 }

-- those of a node whose start gives this, before it opens a tunnel or makes a turn: its datagrams are counted as those of a step
abbrev pub started_counts : List Out → Counts
started_counts outs = with_sent no_counts outs

-- what the start of an end gives goes out, and then a tunnel may be opened and turns are made
pub record GivesAndServes {S : Type 0} (steps : S → ℕ → List ℕ → Event → List Out → S → Type 0) (opens : Bool) (turns : ℕ) (outs : List Out) (old new : Node S) : Type 0 where
  pub mid : Given
  pub gave : Goes old.given mid outs
  pub serves : Serves steps opens turns (record old { given = mid }) new

-- a part of what the start gives went out: at the next output its port failed
pub record StartCut {S F : Type 0} (fault : TurnFault F) (outs : List Out) (old : Node S) (end' : S) (given' : Given) (waits' : Waits) (asked' : Asked) : Type 0 where
  pub part : List Out
  pub cut : IsCut fault outs part
  pub gave : Goes old.given given' part
  pub end : end' ≡ old.end
  pub waits : waits' ≡ old.waits
  pub asks : asked' ≡ old.asked

-- all of it went out, and then the run ended early
pub record GivesAndEnds {S F : Type 0} (steps : S → ℕ → List ℕ → Event → List Out → S → Type 0) (stops : S → ℕ → List ℕ → Event → F → S → Type 0) (fault : TurnFault F) (opens : Bool) (outs : List Out) (old : Node S) (end' : S) (given' : Given) (waits' : Waits) (asked' : Asked) : Type 0 where
  pub mid : Given
  pub gave : Goes old.given mid outs
  pub ends : EndsShort steps stops fault opens (record old { given = mid }) end' given' waits' asked'

-- how far a node came whose end was opened, and which exit goes with it
abbrev pub ServesShort : {S : Type 0} → (S → ℕ → List ℕ → Event → List Out → S → Type 0) → (S → ℕ → List ℕ → Event → NodeStop → S → Type 0) → NodeExit → Bool → List Out → Node S → S → Given → Waits → Asked → Type 0
ServesShort steps stops exit opens outs old end' given' waits' asked' =
    (fault : TurnFault NodeStop)
    × (((exit ≡ of_turn fault) × StartCut fault outs old end' given' waits' asked')
    ⊎ ((exit ≡ of_serving (fault_of fault)) × GivesAndEnds steps stops fault opens outs old end' given' waits' asked'))

-- The run of a plan to its end: the clock is read and the end is opened over what the disk held, at that moment and with the generator's
-- first block; then it serves. The log is told of the start and of each step.
pub record Ran {D : Type 0} (holds : D → Option Held) (reach calls_left faults : D → ℕ) (p : Planned) (counts : Counts) (disk now : D) (log log' : Sunk) (old new : Around) : Type 0 where
  -- the moment that was read
  pub begun : ℕ
  pub read : IfSome old.clock (λ (ms : Moments). begun ≡ moment ms)
  pub opened : NodeEnd
  pub mid : D
  pub mid_log : Sunk
  pub outs : List Out
  pub opens : NodeOpens holds reach calls_left faults p.identity.lac (config_of p) begun (fill_bytes 16 old.stream).0 disk mid log mid_log opened outs
  pub end : NodeEnd
  pub serves : GivesAndServes (NodeSteps holds reach calls_left faults) p.texts.opens p.numbers.turns outs
      (node (fill_bytes 16 old.stream).1 (option_map passed old.clock) (running opened mid (started_counts outs) mid_log) old.given old.waits old.asked)
      (node new.stream new.clock (running end now counts log') new.given new.waits new.asked)

-- The run of a plan that ended before there was anything to go out: the end wasn't opened, or memory was wanting for what its start gives. No
-- port was touched.
pub record StayedShut {D : Type 0} (holds : D → Option Held) (reach calls_left faults : D → ℕ) (p : Planned) (exit : NodeExit) (disk now : D) (log log' : Sunk) (old new : Around) : Type 0 where
  pub begun : ℕ
  pub read : IfSome old.clock (λ (ms : Moments). begun ≡ moment ms)
  pub why : NodeUnopened
  pub exit_is : exit ≡ of_opening why
  pub shut : StaysShut holds reach calls_left faults p.identity.lac (config_of p) begun (fill_bytes 16 old.stream).0 disk now log log' why
  pub given : new.given ≡ old.given
  pub waits : new.waits ≡ old.waits
  pub asks : new.asked ≡ old.asked

-- The run of a plan whose end was opened, and that ended early. The log was told of the start and of each step that was made.
pub record BrokeOff {D : Type 0} (holds : D → Option Held) (reach calls_left faults : D → ℕ) (p : Planned) (exit : NodeExit) (disk now : D) (log log' : Sunk) (old new : Around) : Type 0 where
  -- the moment that was read
  pub begun : ℕ
  pub read : IfSome old.clock (λ (ms : Moments). begun ≡ moment ms)
  pub opened : NodeEnd
  pub mid : D
  pub mid_log : Sunk
  pub outs : List Out
  pub opens : NodeOpens holds reach calls_left faults p.identity.lac (config_of p) begun (fill_bytes 16 old.stream).0 disk mid log mid_log opened outs
  pub end : NodeEnd
  pub counts : Counts
  pub short : ServesShort (NodeSteps holds reach calls_left faults) (NodeStops holds reach calls_left faults) exit p.texts.opens outs
      (node (fill_bytes 16 old.stream).1 (option_map passed old.clock) (running opened mid (started_counts outs) mid_log) old.given old.waits old.asked)
      (running end now counts log') new.given new.waits new.asked

-- the run of a plan, to its end or as far as it came
abbrev pub RanTo : {D : Type 0} → (D → Option Held) → (D → ℕ) → (D → ℕ) → (D → ℕ) → Planned → Result Counts NodeExit → D → D → Sunk → Sunk → Around → Around → Type 0
RanTo holds reach calls_left faults p (Ok counts) disk now log log' old new = Ran holds reach calls_left faults p counts disk now log log' old new
RanTo holds reach calls_left faults p (Err exit) disk now log log' old new =
    StayedShut holds reach calls_left faults p exit disk now log log' old new ⊎ BrokeOff holds reach calls_left faults p exit disk now log log' old new
