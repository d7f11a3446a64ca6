-- What is lent to a turn.
use Rattle.std.proofs.Common.{inl, inr, ℕ, List, refl, sym, ap, subst, ◌∙◌, MutBor}
use Rattle.std.specs.Prelude.{Option, Some, None}
use Rattle.rand_core.specs.Stream.{Stream}
use Rattle.disk_core.specs.Disk.{Held}
use Rattle.port_events.specs.declared.end.Event.{Event}
use Rattle.port_events.specs.declared.end.Out.{Out}
use Rattle.port_events.specs.declared.giving.TurnFault.{TurnFault}
use Rattle.port_events.specs.Feeding.{Ends}
use Rattle.node_run.specs.declared.end.NodeEnd.{NodeEnd}
use Rattle.node_run.specs.declared.end.NodeStop.{NodeStop}
use Rattle.node_run.specs.declared.lending.Counts.{Counts}
use Rattle.node_run.specs.declared.lending.Lent.{Lent}
use Rattle.node_run.specs.Steps.{NodeSteps, NodeStops}
use Rattle.node_run.specs.Lending.{lent, SameLoans, LentSteps, LentStops}

module _ {D K : Type 0} (failed : K → ℕ) (took : K → Option (List ℕ)) (holds : D → Option Held) (reach calls_left count : D → ℕ) where
  pub steps_of : (x y : Lent D K) (now : ℕ) (block : List ℕ) (e : Event) (outs : List Out) → LentSteps failed took holds reach calls_left count x now block e outs y
      → NodeSteps holds reach calls_left count (lent failed took x) now block e outs (lent failed took y)
  steps_of x y now block e outs h = h.steps

  pub stops_of : (x y : Lent D K) (now : ℕ) (block : List ℕ) (e : Event) (stop : NodeStop) → LentStops failed took holds reach calls_left count x now block e stop y
      → NodeStops holds reach calls_left count (lent failed took x) now block e stop (lent failed took y)
  stops_of x y now block e stop h = h.stops

  pub same_loans : (x : Lent D K) → SameLoans x x
  same_loans x = record { end = refl; disk = refl; counts = refl; log = refl }

  pub loans_then : (x y z : Lent D K) → SameLoans x y → SameLoans y z → SameLoans x z
  loans_then x y z a b = record {
    end = b.end ∙ ap (λ (l : MutBor NodeEnd). record l { now = z.end.now }) a.end;
    disk = b.disk ∙ ap (λ (l : MutBor D). record l { now = z.disk.now }) a.disk;
    counts = b.counts ∙ ap (λ (l : MutBor Counts). record l { now = z.counts.now }) a.counts;
    log = b.log ∙ ap (λ (l : MutBor K). record l { now = z.log.now }) a.log;
  }

  pub loans_one : (x y : Lent D K) (now : ℕ) (block : List ℕ) (e : Event) (outs : List Out) → LentSteps failed took holds reach calls_left count x now block e outs y → SameLoans x y
  loans_one x y now block e outs h = h.same

  pub loans_ends : (fault : TurnFault NodeStop) (now : ℕ) (s : Stream) (x y : Lent D K) (last : Option Event) (part : List Out)
      → Ends (LentSteps failed took holds reach calls_left count) (LentStops failed took holds reach calls_left count) now fault s x y last part → SameLoans x y
  loans_ends fault now s x y None part h = subst (SameLoans x) (sym h.0) (same_loans x)
  loans_ends fault now s x y (Some e) part (inl h) = h.made.same
  loans_ends fault now s x y (Some e) part (inr h) = h.why.same
