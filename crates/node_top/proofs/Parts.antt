-- The parts of a run, put together.
use Rattle.std.proofs.Common.{◌≡◌, ℕ, Bool, List, refl, ap, subst}
use Rattle.std.specs.Prelude.{Option, option_map, IfSome}
use Rattle.rand_core.specs.Stream.{Stream, fill_bytes}
use Rattle.disk_core.specs.Disk.{Held}
use Rattle.port_traits.specs.declared.packets.Datagram.{Datagram}
use Rattle.port_traits.specs.declared.packets.LowerFrame.{LowerFrame}
use Rattle.port_traits.specs.Packets.{Moments, moment, passed}
use Rattle.port_events.specs.declared.end.Event.{Event}
use Rattle.port_events.specs.declared.end.Out.{Out}
use Rattle.port_events.specs.declared.giving.TurnFault.{TurnFault}
use Rattle.port_events.specs.Feeding.{Given, Goes}
use Rattle.port_turn.specs.Turns.{Waits, Asked, waits, asked}
use Rattle.port_turn.specs.Runs.{Node, node}
use Rattle.held_ports.specs.Around.{Around}
use Rattle.end_model.specs.declared.tunnel.Config.{Config}
use Rattle.node_words.specs.Plans.{Planned}
use Rattle.node_run.specs.declared.end.NodeEnd.{NodeEnd}
use Rattle.node_run.specs.declared.lending.Counts.{Counts}
use Rattle.node_run.specs.Logs.{Sunk}
use Rattle.node_run.specs.Opening.{NodeOpens}
use Rattle.node_run.specs.Serves.{Serves, EndsShort}
use Rattle.node_run.specs.Steps.{Running, running, NodeSteps, NodeStops}
use Rattle.node_top.specs.declared.exit.NodeExit.{NodeExit}
use Rattle.node_top.specs.Runs.{config_of, started_counts, GivesAndServes, GivesAndEnds, ServesShort, Ran, BrokeOff}

pub same_waits : (l k : Option (List Datagram)) (e f : Option (List (List ℕ))) (u v : Option (List LowerFrame)) → l ≡ k → e ≡ f → u ≡ v → waits l e u ≡ waits k f v
same_waits l k e f u v link ether up = rw (link, ether, up) refl

pub same_asked : (l k e f u v : Option ℕ) → l ≡ k → e ≡ f → u ≡ v → asked l e u ≡ asked k f v
same_asked l k e f u v link ether up = rw (link, ether, up) refl

-- what a start gives goes out, and nothing else of the ports changes by that
pub served_behind : {S : Type 0} (steps : S → ℕ → List ℕ → Event → List Out → S → Type 0) (opens : Bool) (turns : ℕ) (outs : List Out) (old new : Node S) (mid : Given) (w : Waits) (a : Asked)
    → Goes old.given mid outs → w ≡ old.waits → a ≡ old.asked → Serves steps opens turns (node old.stream old.clock old.end mid w a) new → GivesAndServes steps opens turns outs old new
served_behind {S} steps opens turns outs old new mid w a gave waiting asking serves = record {
  mid = mid;
  gave = gave;
  serves = subst (λ (x : Waits). Serves steps opens turns (node old.stream old.clock old.end mid x old.asked) new) waiting
      (subst (λ (x : Asked). Serves steps opens turns (node old.stream old.clock old.end mid w x) new) asking serves);
}

pub ended_behind : {S F : Type 0} (steps : S → ℕ → List ℕ → Event → List Out → S → Type 0) (stops : S → ℕ → List ℕ → Event → F → S → Type 0) (fault : TurnFault F) (opens : Bool) (outs : List Out) (old : Node S)
    (end' : S) (given' : Given) (waits' : Waits) (asked' : Asked) (mid : Given) (w : Waits) (a : Asked) → Goes old.given mid outs → w ≡ old.waits → a ≡ old.asked
    → EndsShort steps stops fault opens (node old.stream old.clock old.end mid w a) end' given' waits' asked' → GivesAndEnds steps stops fault opens outs old end' given' waits' asked'
ended_behind {S} steps stops fault opens outs old end' given' waits' asked' mid w a gave waiting asking ends = record {
  mid = mid;
  gave = gave;
  ends = subst (λ (x : Waits). EndsShort steps stops fault opens (node old.stream old.clock old.end mid x old.asked) end' given' waits' asked') waiting
      (subst (λ (x : Asked). EndsShort steps stops fault opens (node old.stream old.clock old.end mid w x) end' given' waits' asked') asking ends);
}

-- the node that serves, by what was drawn, read and counted before
same_start : {D : Type 0} (stream stream' : Stream) (clock clock' : Option Moments) (before before' : Counts) (opened : NodeEnd) (mid : D) (mid_log : Sunk) (old : Around)
    → stream ≡ stream' → clock ≡ clock' → before ≡ before'
    → node stream clock (running opened mid before mid_log) old.given old.waits old.asked ≡ node stream' clock' (running opened mid before' mid_log) old.given old.waits old.asked
same_start stream stream' clock clock' before before' opened mid mid_log old drawn passes counting = rw (drawn, passes, counting) refl

pub ran_so : {D : Type 0} (holds : D → Option Held) (reach calls_left faults : D → ℕ) (p : Planned) (counts : Counts) (disk mid now : D) (log mid_log log' : Sunk) (old new : Around) (opened end : NodeEnd)
    (outs : List Out) (config : Config) (begun : ℕ) (key : List ℕ) (stream : Stream) (clock : Option Moments) (before : Counts) → before ≡ started_counts outs → config ≡ config_of p → (key, stream) ≡ fill_bytes 16 old.stream → IfSome old.clock (λ (ms : Moments). begun ≡ moment ms)
    → clock ≡ option_map passed old.clock → NodeOpens holds reach calls_left faults p.identity.lac config begun key disk mid log mid_log opened outs
    → GivesAndServes (NodeSteps holds reach calls_left faults) p.texts.opens p.numbers.turns outs
    (node stream clock (running opened mid before mid_log) old.given old.waits old.asked) (node new.stream new.clock (running end now counts log') new.given new.waits new.asked)
    → Ran holds reach calls_left faults p counts disk now log log' old new
ran_so {D} holds reach calls_left faults p counts disk mid now log mid_log log' old new opened end outs config begun key stream clock before counting configured drawn read passes opens serves =
    let first : key ≡ (fill_bytes 16 old.stream).0 = ap (λ (x : List ℕ × Stream). x.0) drawn in
    let later : stream ≡ (fill_bytes 16 old.stream).1 = ap (λ (x : List ℕ × Stream). x.1) drawn in
    record {
      begun = begun;
      read = read;
      opened = opened;
      mid = mid;
      mid_log = mid_log;
      outs = outs;
      opens = subst (λ (c : Config). NodeOpens holds reach calls_left faults p.identity.lac c begun (fill_bytes 16 old.stream).0 disk mid log mid_log opened outs) configured
          (subst (λ (k : List ℕ). NodeOpens holds reach calls_left faults p.identity.lac config begun k disk mid log mid_log opened outs) first opens);
      end = end;
      serves = subst (λ (n : Node (Running D)). GivesAndServes (NodeSteps holds reach calls_left faults) p.texts.opens p.numbers.turns outs n
          (node new.stream new.clock (running end now counts log') new.given new.waits new.asked)) (same_start stream _ clock _ before _ opened mid mid_log old later passes counting) serves;
    }

pub broke_so : {D : Type 0} (holds : D → Option Held) (reach calls_left faults : D → ℕ) (p : Planned) (exit : NodeExit) (counts : Counts) (disk mid now : D) (log mid_log log' : Sunk) (old new : Around)
    (opened end : NodeEnd) (outs : List Out) (config : Config) (begun : ℕ) (key : List ℕ) (stream : Stream) (clock : Option Moments) (before : Counts) → before ≡ started_counts outs → config ≡ config_of p → (key, stream) ≡ fill_bytes 16 old.stream → IfSome old.clock (λ (ms : Moments). begun ≡ moment ms)
    → clock ≡ option_map passed old.clock → NodeOpens holds reach calls_left faults p.identity.lac config begun key disk mid log mid_log opened outs
    → ServesShort (NodeSteps holds reach calls_left faults) (NodeStops holds reach calls_left faults) exit p.texts.opens outs
    (node stream clock (running opened mid before mid_log) old.given old.waits old.asked) (running end now counts log') new.given new.waits new.asked
    → BrokeOff holds reach calls_left faults p exit disk now log log' old new
broke_so {D} holds reach calls_left faults p exit counts disk mid now log mid_log log' old new opened end outs config begun key stream clock before counting configured drawn read passes opens short =
    let first : key ≡ (fill_bytes 16 old.stream).0 = ap (λ (x : List ℕ × Stream). x.0) drawn in
    let later : stream ≡ (fill_bytes 16 old.stream).1 = ap (λ (x : List ℕ × Stream). x.1) drawn in
    record {
      begun = begun;
      read = read;
      opened = opened;
      mid = mid;
      mid_log = mid_log;
      outs = outs;
      opens = subst (λ (c : Config). NodeOpens holds reach calls_left faults p.identity.lac c begun (fill_bytes 16 old.stream).0 disk mid log mid_log opened outs) configured
          (subst (λ (k : List ℕ). NodeOpens holds reach calls_left faults p.identity.lac config begun k disk mid log mid_log opened outs) first opens);
      end = end;
      counts = counts;
      short = subst (λ (n : Node (Running D)). ServesShort (NodeSteps holds reach calls_left faults) (NodeStops holds reach calls_left faults) exit p.texts.opens outs n
          (running end now counts log') new.given new.waits new.asked) (same_start stream _ clock _ before _ opened mid mid_log old later passes counting) short;
    }
