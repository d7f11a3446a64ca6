-- A turn over what is lent, as a turn of a node.
use Rattle.std.proofs.Common.{◌≡◌, ℕ, Bool, false, List, Result, Ok, Err, OnOk, IfErr, refl, sym, ap, subst, MutBor}
use Rattle.std.specs.Prelude.{⊤, Option, IfSome}
use Rattle.rand_core.specs.Stream.{Stream}
use Rattle.disk_core.specs.Disk.{Held}
use Rattle.port_traits.specs.Packets.{Moments, moment}
use Rattle.port_events.specs.declared.end.Event.{Event}
use Rattle.port_events.specs.declared.end.Out.{Out}
use Rattle.port_events.specs.declared.giving.TurnFault.{TurnFault}
use Rattle.port_events.specs.Giving.{Blames}
use Rattle.port_events.specs.Feeding.{Given}
use Rattle.port_turn.specs.Turns.{Waits, Asked, Turn, Turned, Broke}
use Rattle.port_turn.specs.Runs.{Node, node}
use Rattle.node_run.specs.declared.end.NodeEnd.{NodeEnd}
use Rattle.node_run.specs.declared.end.NodeStop.{NodeStop}
use Rattle.node_run.specs.declared.faults.NodeFault.{NodeFault}
use Rattle.node_run.specs.declared.lending.Counts.{Counts}
use Rattle.node_run.specs.declared.lending.Lent.{Lent}
use Rattle.node_run.specs.Faults.{node_fault, faults, NodeBlames, told}
use Rattle.node_run.specs.Lending.{lent, SameLoans, LentSteps, LentStops}
use Rattle.node_run.specs.Logs.{Sunk, sunk, Grows}
use Rattle.node_run.specs.Serves.{Serves, EndsShort}
use Rattle.node_run.specs.Steps.{Running, running, IsReady, NodeSteps, NodeStops}
use Rattle.node_run.proofs.Causes.{is_halted, DiskCauses, Calm, Caused, calm_same, calm_then, calm_one, caused_behind, caused_ends, blames}
use Rattle.node_run.proofs.Growing.{LogGrows, log_same, log_then, log_one, log_ends}
use Rattle.node_run.proofs.Keeping.{turned_keep, serves_keep, broke_keep, short_keep}
use Rattle.node_run.proofs.Lent.{steps_of, stops_of, same_loans, loans_then, loans_one, loans_ends}
use Rattle.node_run.proofs.Viewing.{turned_view, broke_view, serves_view, short_view}

module _ {D K : Type 0} (failed : K → ℕ) (took : K → Option (List ℕ)) (holds : D → Option Held) (reach calls_left count : D → ℕ) where
  abbrev Steps : Running D → ℕ → List ℕ → Event → List Out → Running D → Type 0
  Steps = NodeSteps holds reach calls_left count

  abbrev Stops : Running D → ℕ → List ℕ → Event → NodeStop → Running D → Type 0
  Stops = NodeStops holds reach calls_left count

  abbrev Lends : Lent D K → ℕ → List ℕ → Event → List Out → Lent D K → Type 0
  Lends = LentSteps failed took holds reach calls_left count

  abbrev Ceases : Lent D K → ℕ → List ℕ → Event → NodeStop → Lent D K → Type 0
  Ceases = LentStops failed took holds reach calls_left count

  module _ (before after : Lent D K) (e : NodeEnd) (d : D) (n : Counts) (log : K)
      (of_end : before.end.ghost_name ≡ after.end.ghost_name → e ≡ after.end.now) (of_disk : before.disk.ghost_name ≡ after.disk.ghost_name → d ≡ after.disk.now)
      (of_counts : before.counts.ghost_name ≡ after.counts.ghost_name → n ≡ after.counts.now) (of_log : before.log.ghost_name ≡ after.log.ghost_name → log ≡ after.log.now) where
    abbrev Start : Running D
    Start = lent failed took before

    abbrev Finish : Running D
    Finish = running e d n (sunk (failed log) (took log))

    -- who lent them has them back as they are in the end
    returned : SameLoans before after → lent failed took after ≡ Finish
    returned same =
        let a = of_end (sym (ap (λ (l : MutBor NodeEnd). l.ghost_name) same.end)) in
        let b = of_disk (sym (ap (λ (l : MutBor D). l.ghost_name) same.disk)) in
        let c = of_counts (sym (ap (λ (l : MutBor Counts). l.ghost_name) same.counts)) in
        let l = of_log (sym (ap (λ (l : MutBor K). l.ghost_name) same.log)) in
        rw (a, b, c, l) refl

    ready_of : SameLoans before after → IsReady reach calls_left after.end.now after.disk.now → IsReady reach calls_left e d
    ready_of same ready = subst (λ (x : Running D). IsReady reach calls_left x.end x.disk) (returned same) ready

    -- ---- one turn

    module _ (s t : Stream) (g g' : Given) (w w' : Waits) (a a' : Asked) (clock : Option Moments) where
      abbrev Whole : Result ⊤ (TurnFault NodeStop) → Type 0
      Whole r = OnOk r ((k : Turn) × Turned Lends s t before after g g' w w' a a' k × IfSome clock (λ moments. k.now ≡ moment moments))

      abbrev Breaks : Result ⊤ (TurnFault NodeStop) → Type 0
      Breaks r = IfErr r (λ fault. Broke Lends Ceases fault clock s before after g g' w w' a a')

      turned_same : (k : Turn) → Turned Lends s t before after g g' w w' a a' k → SameLoans before after
      turned_same k h = turned_keep Lends SameLoans (same_loans failed took holds reach calls_left count) (loans_then failed took holds reach calls_left count) (loans_one failed took holds reach calls_left count) s t before after g g' w w' a a' k h

      turned_as : (k : Turn) → Turned Lends s t before after g g' w w' a a' k → Turned Steps s t Start Finish g g' w w' a a' k
      turned_as k h = subst (λ (x : Running D). Turned Steps s t Start x g g' w w' a a' k) (returned (turned_same k h)) (turned_view (lent failed took) Lends Steps (steps_of failed took holds reach calls_left count) s t before after g g' w w' a a' k h)

      broke_same : (fault : TurnFault NodeStop) → Broke Lends Ceases fault clock s before after g g' w w' a a' → SameLoans before after
      broke_same fault h = broke_keep Lends SameLoans (same_loans failed took holds reach calls_left count) (loans_then failed took holds reach calls_left count) (loans_one failed took holds reach calls_left count) Ceases fault SameLoans (loans_then failed took holds reach calls_left count) (loans_ends failed took holds reach calls_left count fault) clock s before after g g' w w' a a' h

      broke_as : (fault : TurnFault NodeStop) → Broke Lends Ceases fault clock s before after g g' w w' a a' → Broke Steps Stops fault clock s Start Finish g g' w w' a a'
      broke_as fault h = subst (λ (x : Running D). Broke Steps Stops fault clock s Start x g g' w w' a a') (returned (broke_same fault h))
          (broke_view (lent failed took) Lends Steps (steps_of failed took holds reach calls_left count) Ceases Stops (stops_of failed took holds reach calls_left count) fault clock s before after g g' w w' a a' h)

      pub turn_whole : (r : Result ⊤ (TurnFault NodeStop)) (r' : Result ⊤ NodeFault) → r' ≡ told r → Whole r
          → OnOk r' ((k : Turn) × Turned Steps s t Start Finish g g' w w' a a' k × IfSome clock (λ moments. k.now ≡ moment moments))
      turn_whole (Ok done) r' is h = rw is (h.0, turned_as h.0 h.1, h.2)
      turn_whole (Err fault) r' is h = rw is tt

      pub turn_broke : (r : Result ⊤ (TurnFault NodeStop)) (r' : Result ⊤ NodeFault) → r' ≡ told r → Breaks r
          → IfErr r' (λ fault. (why : TurnFault NodeStop) × (fault ≡ node_fault why) × Broke Steps Stops why clock s Start Finish g g' w w' a a')
      turn_broke (Ok done) r' is h = rw is tt
      turn_broke (Err fault) r' is h = rw is (fault, refl, broke_as fault h)

      turn_same : (r : Result ⊤ (TurnFault NodeStop)) → Whole r → Breaks r → SameLoans before after
      turn_same (Ok done) h k = turned_same h.0 h.1
      turn_same (Err fault) h k = broke_same fault k

      pub turn_runs : (r : Result ⊤ (TurnFault NodeStop)) (r' : Result ⊤ NodeFault) → r' ≡ told r → Whole r → is_halted before.end.now ≡ false → OnOk r' (is_halted e ≡ false)
      turn_runs (Ok done) r' is h run = rw is ((turned_keep Steps (Calm holds reach calls_left count) (calm_same holds reach calls_left count) (calm_then holds reach calls_left count) (calm_one holds reach calls_left count) s t Start Finish g g' w w' a a' h.0 (turned_as h.0 h.1)).1 run)
      turn_runs (Err fault) r' is h run = rw is tt

      pub turn_ready : (r : Result ⊤ (TurnFault NodeStop)) → Whole r → Breaks r → IsReady reach calls_left after.end.now after.disk.now → IsReady reach calls_left e d
      turn_ready r h k ready = ready_of (turn_same r h k) ready

      turn_causes : (r : Result ⊤ (TurnFault NodeStop)) → Whole r → Breaks r → is_halted before.end.now ≡ false → DiskCauses r (count before.disk.now) (count d)
      turn_causes (Ok done) h k run = (turned_keep Steps (Calm holds reach calls_left count) (calm_same holds reach calls_left count) (calm_then holds reach calls_left count) (calm_one holds reach calls_left count) s t Start Finish g g' w w' a a' h.0 (turned_as h.0 h.1)).0
      turn_causes (Err fault) h k run = broke_keep Steps (Calm holds reach calls_left count) (calm_same holds reach calls_left count) (calm_then holds reach calls_left count) (calm_one holds reach calls_left count) Stops fault (Caused holds reach calls_left count fault) (caused_behind holds reach calls_left count fault) (caused_ends holds reach calls_left count fault) clock s Start Finish g g' w w' a a' (broke_as fault k) run

      pub turn_cause : (r : Result ⊤ (TurnFault NodeStop)) (r' : Result ⊤ NodeFault) (l l' i i' u u' : ℕ) → r' ≡ told r → Whole r → Breaks r → is_halted before.end.now ≡ false → Blames l l' i i' u u' r
          → NodeBlames (faults (count before.disk.now) l i u) (faults (count d) l' i' u') r'
      turn_cause r r' l l' i i' u u' is h k run b = rw is (blames (count before.disk.now) (count d) l l' i i' u u' r b (turn_causes r h k run))

      turn_log : (r : Result ⊤ (TurnFault NodeStop)) → Whole r → Breaks r → Grows Start.log Finish.log
      turn_log (Ok done) h b = turned_keep Steps (LogGrows holds reach calls_left count) (log_same holds reach calls_left count) (log_then holds reach calls_left count) (log_one holds reach calls_left count) s t Start Finish g g' w w' a a' h.0 (turned_as h.0 h.1)
      turn_log (Err fault) h b = broke_keep Steps (LogGrows holds reach calls_left count) (log_same holds reach calls_left count) (log_then holds reach calls_left count) (log_one holds reach calls_left count) Stops fault (LogGrows holds reach calls_left count) (log_then holds reach calls_left count) (log_ends holds reach calls_left count fault) clock s Start Finish g g' w w' a a' (broke_as fault b)

      pub turn_grows : (old : Sunk) (r : Result ⊤ (TurnFault NodeStop)) → old ≡ Start.log → Whole r → Breaks r → Grows old Finish.log
      turn_grows old r is h b = subst (λ (s : Sunk). Grows s Finish.log) (sym is) (turn_log r h b)

    -- ---- a whole run

    module _ (s t : Stream) (clock clock' : Option Moments) (g g' : Given) (w w' : Waits) (a a' : Asked) (opens : Bool) (turns : ℕ) where
      abbrev First : Node (Lent D K)
      First = node s clock before g w a

      abbrev Last : Node (Lent D K)
      Last = node t clock' after g' w' a'

      abbrev Opened : Node (Running D)
      Opened = node s clock Start g w a

      abbrev Closed : Node (Running D)
      Closed = node t clock' Finish g' w' a'

      abbrev Served : Result ⊤ (TurnFault NodeStop) → Type 0
      Served r = OnOk r (Serves Lends opens turns First Last)

      abbrev Cut : Result ⊤ (TurnFault NodeStop) → Type 0
      Cut r = IfErr r (λ fault. EndsShort Lends Ceases fault opens First after g' w' a')

      serves_same : Serves Lends opens turns First Last → SameLoans before after
      serves_same h = serves_keep Lends SameLoans (same_loans failed took holds reach calls_left count) (loans_then failed took holds reach calls_left count) (loans_one failed took holds reach calls_left count) opens turns First Last h

      serves_as : Serves Lends opens turns First Last → Serves Steps opens turns Opened Closed
      serves_as h = subst (λ (x : Running D). Serves Steps opens turns Opened (node t clock' x g' w' a')) (returned (serves_same h))
          (serves_view (lent failed took) Lends Steps (steps_of failed took holds reach calls_left count) opens turns First Last h)

      short_same : (fault : TurnFault NodeStop) → EndsShort Lends Ceases fault opens First after g' w' a' → SameLoans before after
      short_same fault h = short_keep Lends SameLoans (same_loans failed took holds reach calls_left count) (loans_then failed took holds reach calls_left count) (loans_one failed took holds reach calls_left count) Ceases fault SameLoans (loans_then failed took holds reach calls_left count) (loans_ends failed took holds reach calls_left count fault) opens First after g' w' a' h

      short_as : (fault : TurnFault NodeStop) → EndsShort Lends Ceases fault opens First after g' w' a' → EndsShort Steps Stops fault opens Opened Finish g' w' a'
      short_as fault h = subst (λ (x : Running D). EndsShort Steps Stops fault opens Opened x g' w' a') (returned (short_same fault h))
          (short_view (lent failed took) Lends Steps (steps_of failed took holds reach calls_left count) Ceases Stops (stops_of failed took holds reach calls_left count) fault opens First after g' w' a' h)

      pub run_whole : (r : Result ⊤ (TurnFault NodeStop)) (r' : Result ⊤ NodeFault) → r' ≡ told r → Served r
          → OnOk r' (Serves Steps opens turns Opened Closed)
      run_whole (Ok done) r' is h = rw is (serves_as h)
      run_whole (Err fault) r' is h = rw is tt

      pub run_short : (r : Result ⊤ (TurnFault NodeStop)) (r' : Result ⊤ NodeFault) → r' ≡ told r → Cut r
          → IfErr r' (λ fault. (why : TurnFault NodeStop) × (fault ≡ node_fault why) × EndsShort Steps Stops why opens Opened Finish g' w' a')
      run_short (Ok done) r' is h = rw is tt
      run_short (Err fault) r' is h = rw is (fault, refl, short_as fault h)

      run_same : (r : Result ⊤ (TurnFault NodeStop)) → Served r → Cut r → SameLoans before after
      run_same (Ok done) h k = serves_same h
      run_same (Err fault) h k = short_same fault k

      pub run_ready : (r : Result ⊤ (TurnFault NodeStop)) → Served r → Cut r → IsReady reach calls_left after.end.now after.disk.now → IsReady reach calls_left e d
      run_ready r h k ready = ready_of (run_same r h k) ready

      pub run_runs : (r : Result ⊤ (TurnFault NodeStop)) (r' : Result ⊤ NodeFault) → r' ≡ told r → Served r → is_halted before.end.now ≡ false → OnOk r' (is_halted e ≡ false)
      run_runs (Ok done) r' is h run = rw is ((serves_keep Steps (Calm holds reach calls_left count) (calm_same holds reach calls_left count) (calm_then holds reach calls_left count) (calm_one holds reach calls_left count) opens turns Opened Closed (serves_as h)).1 run)
      run_runs (Err fault) r' is h run = rw is tt

      run_causes : (r : Result ⊤ (TurnFault NodeStop)) → Served r → Cut r → is_halted before.end.now ≡ false → DiskCauses r (count before.disk.now) (count d)
      run_causes (Ok done) h k run = (serves_keep Steps (Calm holds reach calls_left count) (calm_same holds reach calls_left count) (calm_then holds reach calls_left count) (calm_one holds reach calls_left count) opens turns Opened Closed (serves_as h)).0
      run_causes (Err fault) h k run = short_keep Steps (Calm holds reach calls_left count) (calm_same holds reach calls_left count) (calm_then holds reach calls_left count) (calm_one holds reach calls_left count) Stops fault (Caused holds reach calls_left count fault) (caused_behind holds reach calls_left count fault) (caused_ends holds reach calls_left count fault) opens Opened Finish g' w' a' (short_as fault k) run

      pub run_cause : (r : Result ⊤ (TurnFault NodeStop)) (r' : Result ⊤ NodeFault) (l l' i i' u u' : ℕ) → r' ≡ told r → Served r → Cut r → is_halted before.end.now ≡ false → Blames l l' i i' u u' r
          → NodeBlames (faults (count before.disk.now) l i u) (faults (count d) l' i' u') r'
      run_cause r r' l l' i i' u u' is h k run b = rw is (blames (count before.disk.now) (count d) l l' i i' u u' r b (run_causes r h k run))

      run_log : (r : Result ⊤ (TurnFault NodeStop)) → Served r → Cut r → Grows Start.log Finish.log
      run_log (Ok done) h c = serves_keep Steps (LogGrows holds reach calls_left count) (log_same holds reach calls_left count) (log_then holds reach calls_left count) (log_one holds reach calls_left count) opens turns Opened Closed (serves_as h)
      run_log (Err fault) h c = short_keep Steps (LogGrows holds reach calls_left count) (log_same holds reach calls_left count) (log_then holds reach calls_left count) (log_one holds reach calls_left count) Stops fault (LogGrows holds reach calls_left count) (log_then holds reach calls_left count) (log_ends holds reach calls_left count fault) opens Opened Finish g' w' a' (short_as fault c)

      pub run_grows : (old : Sunk) (r : Result ⊤ (TurnFault NodeStop)) → old ≡ Start.log → Served r → Cut r → Grows old Finish.log
      run_grows old r is h b = subst (λ (s : Sunk). Grows s Finish.log) (sym is) (run_log r h b)
