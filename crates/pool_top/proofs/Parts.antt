-- The parts of a run, put together.
use Rattle.std.proofs.Common.{◌≡◌, inr, ℕ, Bool, List, refl, sym, ap, subst, ◌∙◌}
use Rattle.std.specs.Prelude.{Option, Some, None, option_map, IfSome, Result, Ok, Err}
use Rattle.rand_core.specs.Stream.{Stream, fill_bytes}
use Rattle.disk_core.specs.Disk.{Held}
use Rattle.port_traits.specs.declared.packets.Datagram.{Datagram}
use Rattle.port_traits.specs.declared.packets.LowerFrame.{LowerFrame}
use Rattle.port_traits.specs.Packets.{Moments, moment, passed}
use Rattle.port_events.specs.declared.end.Out.{Out}
use Rattle.port_events.specs.declared.giving.TurnFault.{TurnFault}
use Rattle.port_events.specs.Giving.{IsCut}
use Rattle.port_events.specs.Feeding.{Given, Goes}
use Rattle.port_turn.specs.Turns.{Waits, Asked, waits, asked}
use Rattle.held_ports.specs.Around.{Around, around}
use Rattle.pool_turns.proofs.Following.{puts_all}
use Rattle.worker_pool.specs.Tallies.{capped}
use Rattle.worker_pool.specs.declared.tally.Tally.{Tally}
use Rattle.end_model.specs.declared.tunnel.Config.{Config}
use Rattle.node_words.specs.Plans.{Planned}
use Rattle.node_run.specs.declared.end.NodeEnd.{NodeEnd}
use Rattle.node_run.specs.declared.faults.NodeFault.{NodeFault}
use Rattle.node_run.specs.declared.faults.NodeFault.TheVariants as node_fault
use Rattle.node_run.specs.Faults.{Faults, faults}
use Rattle.node_run.specs.Logs.{Sunk}
use Rattle.node_run.specs.Opening.{NodeOpens}
use Rattle.node_top.specs.declared.exit.NodeExit.{NodeExit}
use Rattle.node_top.specs.Runs.{config_of}
use Rattle.node_pool.specs.Exits.{PoolBlames}
use Rattle.node_pool.specs.Pools.{RanPool}
use Rattle.pool_top.specs.Runs.{answer_of, RunBlames, TellsFull, GivesAndRuns, GivesPart, RanFrom, Ran, RanTo}

pub same_waits : (l k : Option (List Datagram)) (e f : Option (List (List ℕ))) (u v : Option (List LowerFrame)) → l ≡ k → e ≡ f → u ≡ v → waits l e u ≡ waits k f v
same_waits l k e f u v link ether up = rw (link, ether, up) refl

pub same_asked : (l k e f u v : Option ℕ) → l ≡ k → e ≡ f → u ≡ v → asked l e u ≡ asked k f v
same_asked l k e f u v link ether up = rw (link, ether, up) refl

same_around : (s : Stream) (c : Option Moments) (g : Given) (w v : Waits) (a b : Asked) → w ≡ v → a ≡ b → around s c g w a ≡ around s c g v b
same_around s c g w v a b waiting asking = rw (waiting, asking) refl

-- ---- what a start gives

pub gave_part : {F : Type 0} (fault : TurnFault F) (outs part : List Out) (s : Stream) (c : Option Moments) (g h : Given) (w v : Waits) (a b : Asked) → IsCut fault outs part → Goes g h part
    → v ≡ w → b ≡ a → GivesPart fault outs (around s c g w a) (around s c h v b)
gave_part fault outs part s c g h w v a b cut gave waiting asking = record { part = part; cut = cut; gave = gave; rest = same_around s c h v w b a waiting asking }

pub gave_and_ran : (fault : Option NodeFault) (opens : Bool) (turns : ℕ) (tally : Tally) (outs : List Out) (s : Stream) (c : Option Moments) (g h : Given) (w v : Waits) (a b : Asked) (new : Around) → Goes g h outs
    → v ≡ w → b ≡ a → RanPool fault opens turns tally (around s c h v b) new → GivesAndRuns fault opens turns tally outs (around s c g w a) new
gave_and_ran fault opens turns tally outs s c g h w v a b new gave waiting asking ran = record {
  mid = h;
  gave = gave;
  ran = subst (λ (x : Around). RanPool fault opens turns tally x new) (same_around s c h v w b a waiting asking) ran;
}

-- ---- why a pool ended

told_full : (fault : NodeFault) (old new : Faults) (held : Option Held) → PoolBlames old new held (Some fault) → TellsFull fault held
told_full node_fault.StoreFault old new held h = tt
told_full node_fault.LinkFault old new held h = tt
told_full node_fault.EtherFault old new held h = tt
told_full node_fault.UplinkFault old new held h = tt
told_full (node_fault.StoreFull records) old new held h = (h.0, h.1)
told_full node_fault.NoMemory old new held h = tt

pub ran_from : (fault : Option NodeFault) (opens : Bool) (turns : ℕ) (outs : List Out) (tally : Tally) (before after : Faults) (held : Option Held) (old new : Around)
    → GivesAndRuns fault opens turns tally outs old new → PoolBlames before after held fault → RanFrom opens turns outs (answer_of fault tally) held old new
ran_from None opens turns outs tally before after held old new h blames = record {
  runs = h;
  taken =
      ap (λ (t : Tally). t.taken) h.ran.counted
      ∙ ap (λ (n : ℕ). capped n) (h.ran.each ∙ puts_all h.ran.ran.ts h.ran.ps h.ran.ran.start h.ran.ran.last h.ran.ran.runs);
}
ran_from (Some fault) opens turns outs tally before after held old new h blames = inr (fault, tally, refl, told_full fault before after held blames, h)

pub ran_as : (ran : Result Tally NodeExit) (fault : Option NodeFault) (opens : Bool) (turns : ℕ) (outs : List Out) (tally : Tally) (before after : Faults) (held : Option Held) (old new : Around)
    → ran ≡ answer_of fault tally → GivesAndRuns fault opens turns tally outs old new → PoolBlames before after held fault → RanFrom opens turns outs ran held old new
ran_as ran fault opens turns outs tally before after held old new is h blames =
    subst (λ (r : Result Tally NodeExit). RanFrom opens turns outs r held old new) (sym is) (ran_from fault opens turns outs tally before after held old new h blames)

blamed_by : (fault : Option NodeFault) (tally : Tally) (old new : Faults) (held : Option Held) → PoolBlames old new held fault → RunBlames old new (answer_of fault tally)
blamed_by None tally old new held h = h
blamed_by (Some node_fault.StoreFault) tally old new held h = h
blamed_by (Some node_fault.LinkFault) tally old new held h = h
blamed_by (Some node_fault.EtherFault) tally old new held h = h
blamed_by (Some node_fault.UplinkFault) tally old new held h = h
blamed_by (Some (node_fault.StoreFull records)) tally old new held h = h.2
blamed_by (Some node_fault.NoMemory) tally old new held h = h

pub blamed_as : (ran : Result Tally NodeExit) (fault : Option NodeFault) (tally : Tally) (old new : Faults) (held : Option Held) → ran ≡ answer_of fault tally → PoolBlames old new held fault → RunBlames old new ran
blamed_as ran fault tally old new held is h = subst (λ (r : Result Tally NodeExit). RunBlames old new r) (sym is) (blamed_by fault tally old new held h)

-- by counts that were the same before
same_faults : (disk disk' link link' ether ether' up up' : ℕ) → disk' ≡ disk → link' ≡ link → ether' ≡ ether → up' ≡ up → faults disk' link' ether' up' ≡ faults disk link ether up
same_faults disk disk' link link' ether ether' up up' d l e u = rw (d, l, e, u) refl

pub blamed_from : (ran : Result Tally NodeExit) (fault : Option NodeFault) (tally : Tally) (disk link link' ether ether' up up' : ℕ) (new : Faults) (held : Option Held) → ran ≡ answer_of fault tally
    → link' ≡ link → ether' ≡ ether → up' ≡ up → PoolBlames (faults disk link' ether' up') new held fault → RunBlames (faults disk link ether up) new ran
blamed_from ran fault tally disk link link' ether ether' up up' new held is l e u h =
    subst (λ (f : Faults). RunBlames f new ran) (same_faults disk disk link link' ether ether' up up' refl l e u) (blamed_as ran fault tally (faults disk link' ether' up') new held is h)

pub blamed_behind : (ran : Result Tally NodeExit) (disk disk' link ether up : ℕ) (new : Faults) → disk' ≡ disk → RunBlames (faults disk' link ether up) new ran → RunBlames (faults disk link ether up) new ran
blamed_behind ran disk disk' link ether up new d h =
    subst (λ (f : Faults). RunBlames f new ran) (same_faults disk disk' link link ether ether up up d refl refl refl) h

-- ---- the whole run

to_its_end : {D : Type 0} (holds : D → Option Held) (reach calls_left faults : D → ℕ) (p : Planned) (ran : Result Tally NodeExit) (disk now : D) (log log' : Sunk) (old new : Around)
    → Ran holds reach calls_left faults p ran disk now log log' old new → RanTo holds reach calls_left faults p ran disk now log log' old new
to_its_end holds reach calls_left faults p (Ok tally) disk now log log' old new h = h
to_its_end holds reach calls_left faults p (Err exit) disk now log log' old new h = inr h

same_start : (s t : Stream) (c d : Option Moments) (old : Around) → s ≡ t → c ≡ d → record old { stream = s; clock = c } ≡ record old { stream = t; clock = d }
same_start s t c d old drawn passes = rw (drawn, passes) refl

pub ran_so : {D : Type 0} (holds : D → Option Held) (reach calls_left faults : D → ℕ) (p : Planned) (ran : Result Tally NodeExit) (disk mid now : D) (log log' : Sunk) (old new : Around) (opened : NodeEnd)
    (outs : List Out) (config : Config) (begun : ℕ) (key : List ℕ) (stream : Stream) (clock : Option Moments) → config ≡ config_of p → (key, stream) ≡ fill_bytes 16 old.stream → IfSome old.clock (λ (ms : Moments). begun ≡ moment ms)
    → clock ≡ option_map passed old.clock → NodeOpens holds reach calls_left faults p.identity.lac config begun key disk mid log log' opened outs
    → RanFrom p.texts.opens p.numbers.turns outs ran (holds now) (record old { stream = stream; clock = clock }) new
    → RanTo holds reach calls_left faults p ran disk now log log' old new
ran_so {D} holds reach calls_left faults p ran disk mid now log log' old new opened outs config begun key stream clock configured drawn read passes opens runs =
    let first : key ≡ (fill_bytes 16 old.stream).0 = ap (λ (x : List ℕ × Stream). x.0) drawn in
    let later : stream ≡ (fill_bytes 16 old.stream).1 = ap (λ (x : List ℕ × Stream). x.1) drawn in
    to_its_end holds reach calls_left faults p ran disk now log log' old new
    (record {
      outs = outs;
      opened = record {
        begun = begun;
        read = read;
        opened = opened;
        mid = mid;
        opens = subst (λ (c : Config). NodeOpens holds reach calls_left faults p.identity.lac c begun (fill_bytes 16 old.stream).0 disk mid log log' opened outs) configured
            (subst (λ (k : List ℕ). NodeOpens holds reach calls_left faults p.identity.lac config begun k disk mid log log' opened outs) first opens);
      };
      runs = subst (λ (a : Around). RanFrom p.texts.opens p.numbers.turns outs ran (holds now) a new) (same_start stream _ clock _ old later passes) runs;
    })
