-- How far a pool came, and why it ended.
use Rattle.std.proofs.Common.{◌≡◌, inl, ℕ, ◌+◌, Bool, true, false, List, [], length, refl, sym, ap, subst, ◌∙◌, arith}
use Rattle.std.specs.Prelude.{Option, Some, None}
use Rattle.std.proofs.lemmas.List.{length-map}
use Rattle.disk_core.specs.Disk.{Held}
use Rattle.port_events.specs.declared.giving.TurnFault.{TurnFault}
use Rattle.port_events.specs.declared.giving.TurnFault.TheVariants as turn
use Rattle.step_hub.specs.declared.stop.Stop.{Stop}
use Rattle.step_hub.specs.declared.stop.Stop.TheVariants as stop
use Rattle.step_hub.specs.declared.stop.StepError.{StepError}
use Rattle.shared_store.specs.Stops.{Tells, TellsRecords}
use Rattle.session_workers.specs.Items.{numbers_of}
use Rattle.session_workers.specs.Finishing.{finished_numbers}
use Rattle.session_workers.specs.Items.{all_parts}
use Rattle.session_workers.specs.Passes.{items_of, finished_of, known_of, taken_of}
use Rattle.session_workers.specs.declared.shared.Pass.{Pass}
use Rattle.session_workers.specs.declared.finished.Finished.{Finished}
use Rattle.session_workers.specs.declared.item.Numbered.{Numbered}
use Rattle.worker_pool.specs.declared.pass.PoolPass.{PoolPass}
use Rattle.worker_pool.specs.declared.tally.Tally.{Tally}
use Rattle.worker_pool.specs.Tallies.{tally_of, IsTallyOf}
use Rattle.worker_pool.specs.Pools.{IsAlone, AllDone}
use Rattle.worker_pool.proofs.Times.{same_length}
use Rattle.held_ports.specs.Around.{Around, PortCounts}
use Rattle.pool_turns.specs.Turns.{Put, MayBegin, RanTo, BreaksOff}
use Rattle.pool_turns.proofs.Drawing.{goes_none, draws_none}
use Rattle.pool_turns.proofs.Following.{is_one_of}
use Rattle.node_run.specs.declared.faults.NodeFault.{NodeFault}
use Rattle.pool_serving.specs.declared.serving.PoolServing.{PoolServing}
use Rattle.pool_serving.specs.Faults.{AreBlamed}
use Rattle.pool_serving.specs.Serving.{PoolServes}
use Rattle.node_pool.specs.Exits.{fault_of_stop, pool_fault, with_disk, PoolBlames}
use Rattle.node_pool.specs.Pools.{RanPool}

-- ---- a pool that made nothing

may_begin_none : (opens : Bool) (a : Around) → MayBegin opens a a
may_begin_none true a = (refl, refl, ([], goes_none a.given))
may_begin_none false a = refl

nothing_ran : (opens : Bool) (turns : ℕ) (a : Around) → BreaksOff opens turns [] a a
nothing_ran opens turns a = record {
  start = a;
  begins = may_begin_none opens a;
  ts = [];
  few = omega arith;
  whole = [];
  mid = a;
  runs = (refl, refl);
  last = [];
  stops = record {
    t = record { now = 0; datagram = None; frame = None; lower = None };
    breaks = record { link = inl refl; ether = inl refl; up = inl refl; outs = []; gave = goes_none a.given };
    block = [];
    puts = inl refl;
  };
  puts = refl;
}

pub ran_nothing : {F : Type 0} (fault : F) (opens : Bool) (turns : ℕ) (a : Around) → RanPool (Some fault) opens turns (tally_of []) a a
ran_nothing fault opens turns a = record { ps = []; ran = nothing_ran opens turns a; finished = []; each = refl; counted = refl }

pub ran_nothing_by : {F : Type 0} (fault : F) (opens : Bool) (turns : ℕ) (t : Tally) (a : Around) → t ≡ tally_of [] → RanPool (Some fault) opens turns t a a
ran_nothing_by fault opens turns t a none = subst (λ (u : Tally). RanPool (Some fault) opens turns u a a) (sym none) (ran_nothing fault opens turns a)

-- ---- what was put, and what was finished

-- as many were finished as were put
as_many : (p : PoolPass) (fs : List Finished) → taken_of p.pass ≡ finished_numbers fs → AllDone p → length fs ≡ length (known_of p.pass)
as_many p fs numbers done =
    let all : length (finished_numbers fs) ≡ length fs = length-map fs (λ (f : Finished). f.number) in
    let puts : length (numbers_of (known_of p.pass)) ≡ length (known_of p.pass) = length-map (known_of p.pass) (λ (x : Numbered). x.number) in
    let same : length (taken_of p.pass) ≡ length (numbers_of (known_of p.pass)) = same_length (taken_of p.pass) (numbers_of (known_of p.pass)) done.0 in
    let are : length (taken_of p.pass) ≡ length (finished_numbers fs) = ap (λ (ns : List ℕ). length ns) numbers in
    omega (arith, all, puts, same, are)

module _ {P G : Type 0} (around : P → Around) (counts : P → PortCounts) where
  pub ran_pool : (before after : PoolServing P G) (p : PoolPass) (t : Tally) (k : ℕ) → PoolServes around counts before after → before.fault ≡ None → before.desk.now.puts ≡ 0
      → k ≡ 0 → after.desk.now.puts + k ≡ before.desk.now.puts + length (known_of p.pass) → IsTallyOf (taken_of p.pass) t → AllDone p
      → RanPool after.fault before.opens before.turns t (around before.ports.now) (around after.ports.now)
  ran_pool before after p t k serves none first nothing puts tally done =
      let put : after.desk.now.puts ≡ before.desk.now.puts + length serves.ps = serves.puts in
      let many = as_many p tally.0 tally.1 done in
      record {
        ps = serves.ps;
        ran = serves.ran none;
        finished = tally.0;
        each = omega (arith, many, put, puts, first, nothing);
        counted = tally.2;
      }

  -- of queues that were just opened
  pub ran_opened : (before after : PoolServing P G) (q p : PoolPass) (pass : Pass) (t : Tally) → q.pass ≡ pass → known_of pass ≡ []
      → ((items_of pass).parts ≡ all_parts) × ((finished_of pass).parts ≡ all_parts) → PoolServes around counts before after → before.fault ≡ None → before.desk.now.puts ≡ 0
      → after.desk.now.puts + length (known_of q.pass) ≡ before.desk.now.puts + length (known_of p.pass) → IsTallyOf (taken_of p.pass) t → (IsAlone q → AllDone p)
      → RanPool after.fault before.opens before.turns t (around before.ports.now) (around after.ports.now)
  ran_opened before after q p pass t same nothing all serves none first puts tally done =
      let known : length (known_of q.pass) ≡ 0 = ap (λ (x : Pass). length (known_of x)) same ∙ ap length nothing in
      let alone : IsAlone q = (ap (λ (x : Pass). (items_of x).parts) same ∙ all.0, ap (λ (x : Pass). (finished_of x).parts) same ∙ all.1) in
      ran_pool before after p t (length (known_of q.pass)) serves none first known puts tally (done alone)

-- ---- why it ended

-- what was said of a run is said of it with the exit of its hub
ran_with : (f : Option (TurnFault StepError)) (s : Option Stop) (opens : Bool) (turns : ℕ) (ps : List Put) (old new : Around)
    → RanTo f opens turns ps old new → RanTo (pool_fault f s) opens turns ps old new
ran_with None None opens turns ps old new h = h
ran_with None (Some s) opens turns ps old new h = is_one_of opens turns ps old new new h (draws_none new)
ran_with (Some f) s opens turns ps old new h = h

pub pool_ran : (f : Option (TurnFault StepError)) (s : Option Stop) (opens : Bool) (turns : ℕ) (t : Tally) (old new : Around)
    → RanPool f opens turns t old new → RanPool (pool_fault f s) opens turns t old new
pool_ran f s opens turns t old new h = record {
  ps = h.ps;
  ran = ran_with f s opens turns h.ps old new h.ran;
  finished = h.finished;
  each = h.each;
  counted = h.counted;
}

-- no port failed: what the hub tells
stop_blamed : (begun now : ℕ) (held : Option Held) (old new : PortCounts) (s : Stop) → new.link ≡ old.link → new.ether ≡ old.ether → new.up ≡ old.up
    → Tells (Some s) begun now → TellsRecords (Some s) held → PoolBlames (with_disk begun old) (with_disk now new) held (Some (fault_of_stop s))
stop_blamed begun now held old new stop.Fault link ether up tells records = (tells, rw (link, ether, up) refl)
stop_blamed begun now held old new (stop.Full count wanted) link ether up tells records = (tells.0, records, rw (link, ether, up, tells.1) refl)

same_counts : (begun now : ℕ) (old new : PortCounts) → new.link ≡ old.link → new.ether ≡ old.ether → new.up ≡ old.up → now ≡ begun
    → with_disk now new ≡ with_disk begun old
same_counts begun now old new link ether up same = rw (link, ether, up, same) refl

pub pool_blamed : (begun now : ℕ) (held : Option Held) (old new : PortCounts) (f : Option (TurnFault StepError)) (s : Option Stop)
    → AreBlamed old new f → Tells s begun now → TellsRecords s held → PoolBlames (with_disk begun old) (with_disk now new) held (pool_fault f s)
pool_blamed begun now held old new None None h tells records = same_counts begun now old new h.0 h.1 h.2 tells
pool_blamed begun now held old new None (Some s) h tells records = stop_blamed begun now held old new s h.0 h.1 h.2 tells records
pool_blamed begun now held old new (Some turn.LinkFault) s h tells records = (h.0, rw (h.1, h.2) refl)
pool_blamed begun now held old new (Some turn.EtherFault) s h tells records = (h.1, rw (h.0, h.2) refl)
pool_blamed begun now held old new (Some turn.UplinkFault) s h tells records = (h.2, rw (h.0, h.1) refl)
pool_blamed begun now held old new (Some turn.NoMemory) None h tells records = same_counts begun now old new h.0 h.1 h.2 tells
pool_blamed begun now held old new (Some turn.NoMemory) (Some s) h tells records = stop_blamed begun now held old new s h.0 h.1 h.2 tells records
pool_blamed begun now held old new (Some (turn.Stopped e)) None h tells records = same_counts begun now old new h.0 h.1 h.2 tells
pool_blamed begun now held old new (Some (turn.Stopped e)) (Some s) h tells records = stop_blamed begun now held old new s h.0 h.1 h.2 tells records

-- so it is by a count that was the disk's
pub pool_blamed_by : (disk begun now : ℕ) (held : Option Held) (old new : PortCounts) (f : Option (TurnFault StepError)) (s : Option Stop) → disk ≡ begun
    → AreBlamed old new f → Tells s begun now → TellsRecords s held → PoolBlames (with_disk disk old) (with_disk now new) held (pool_fault f s)
pool_blamed_by disk begun now held old new f s same h tells records =
    subst (λ (n : ℕ). PoolBlames (with_disk n old) (with_disk now new) held (pool_fault f s)) (sym same) (pool_blamed begun now held old new f s h tells records)

pub pool_ran_as : (r : Option NodeFault) (f : Option (TurnFault StepError)) (s : Option Stop) (opens : Bool) (turns : ℕ) (t : Tally) (old new : Around) → r ≡ pool_fault f s
    → RanPool f opens turns t old new → RanPool r opens turns t old new
pool_ran_as r f s opens turns t old new is h = subst (λ (o : Option NodeFault). RanPool o opens turns t old new) (sym is) (pool_ran f s opens turns t old new h)

pub pool_blamed_as : (r : Option NodeFault) (disk begun now : ℕ) (held : Option Held) (old new : PortCounts) (f : Option (TurnFault StepError)) (s : Option Stop) → r ≡ pool_fault f s → disk ≡ begun
    → AreBlamed old new f → Tells s begun now → TellsRecords s held → PoolBlames (with_disk disk old) (with_disk now new) held r
pool_blamed_as r disk begun now held old new f s is same h tells records =
    subst (λ (o : Option NodeFault). PoolBlames (with_disk disk old) (with_disk now new) held o) (sym is) (pool_blamed_by disk begun now held old new f s same h tells records)
