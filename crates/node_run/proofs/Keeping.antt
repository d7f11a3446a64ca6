-- What each step keeps is kept in a turn, and in turn after turn.
use Rattle.std.proofs.Common.{ℕ, inl, inr, Bool, true, false, List, [], ◌∷◌, sym, ap, subst}
use Rattle.std.specs.Prelude.{Option}
use Rattle.rand_core.specs.Stream.{Stream, fill_bytes}
use Rattle.port_traits.specs.Packets.{Moments}
use Rattle.port_events.specs.declared.end.Event.{Event}
use Rattle.port_events.specs.declared.end.Event.TheVariants as event
use Rattle.port_events.specs.declared.end.Out.{Out}
use Rattle.port_events.specs.declared.giving.TurnFault.{TurnFault}
use Rattle.port_events.specs.Feeding.{Given, Leads, Ends, Stopped}
use Rattle.port_turn.specs.Turns.{Waits, Asked, Turn, Turned, Broke}
use Rattle.port_turn.specs.Runs.{Node, Runs, Opens, BreaksOff, OpeningStopped}
use Rattle.node_run.specs.Serves.{Begins, Serves, EndsShort}

module _ {S : Type 0} (steps : S → ℕ → List ℕ → Event → List Out → S → Type 0) (R : S → S → Type 0)
    (same : (x : S) → R x x) (then : (x y z : S) → R x y → R y z → R x z)
    (one : (x y : S) (now : ℕ) (block : List ℕ) (e : Event) (outs : List Out) → steps x now block e outs y → R x y) where
  pub leads_keep : (now : ℕ) (s t : Stream) (x y : S) (es : List Event) (outs : List Out) → Leads steps now s x es outs t y → R x y
  leads_keep now s t x y [] outs a = subst (R x) (sym a.2) (same x)
  leads_keep now s t x y (e ∷ es) outs a =
      let block = fill_bytes 16 s in
      then x a.0 y (one x a.0 now block.0 e a.1 a.3) (leads_keep now block.1 t a.0 y es a.2 a.5)

  pub turned_keep : (s t : Stream) (x y : S) (g g' : Given) (w w' : Waits) (a a' : Asked) (turn : Turn) → Turned steps s t x y g g' w w' a a' turn → R x y
  turned_keep s t x y g g' w w' a a' turn h = leads_keep turn.now s t x y _ h.fed.outs h.fed.leads

  pub runs_keep : (ts : List Turn) (p q : Node S) → Runs steps ts p q → R p.end q.end
  runs_keep [] p q h = subst (R p.end) (ap (λ (n : Node S). n.end) (sym h)) (same p.end)
  runs_keep (t ∷ ts) p q h = then p.end h.0.end q.end (turned_keep _ _ _ _ _ _ _ _ _ _ t h.1.turned) (runs_keep ts h.0 q h.2)

  pub opens_keep : (p q : Node S) → Opens steps p q → R p.end q.end
  opens_keep p q h = leads_keep h.now p.stream q.stream p.end q.end (event.Open ∷ []) h.fed.outs h.fed.leads

  begins_keep : (opens : Bool) (p q : Node S) → Begins steps opens p q → R p.end q.end
  begins_keep true p q h = opens_keep p q h
  begins_keep false p q h = subst (λ (n : Node S). R p.end n.end) (sym h) (same p.end)

  pub serves_keep : (opens : Bool) (turns : ℕ) (p q : Node S) → Serves steps opens turns p q → R p.end q.end
  serves_keep opens turns p q h = then p.end h.0.end q.end (begins_keep opens p h.0 h.1) (runs_keep h.2 h.0 q h.4)

  -- and then what the last event leaves follows
  module _ {F : Type 0} (stops : S → ℕ → List ℕ → Event → F → S → Type 0) (fault : TurnFault F) (Q : S → S → Type 0)
      (behind : (x y z : S) → R x y → Q y z → Q x z)
      (ends : (now : ℕ) (s : Stream) (x y : S) (last : Option Event) (part : List Out) → Ends steps stops now fault s x y last part → Q x y) where
    pub stopped_keep : (now : ℕ) (s : Stream) (x y : S) (g g' : Given) (es : List Event) → Stopped steps stops now fault s x y g g' es → Q x y
    stopped_keep now s x y g g' es h = behind x h.mid y (leads_keep now s h.mid_stream x h.mid h.made h.outs h.leads) (ends now h.mid_stream h.mid y h.last h.part h.ends)

    pub broke_keep : (c : Option Moments) (s : Stream) (x y : S) (g g' : Given) (w w' : Waits) (a a' : Asked) → Broke steps stops fault c s x y g g' w w' a a' → Q x y
    broke_keep c s x y g g' w w' a a' h = stopped_keep h.turn.now s x y g g' _ h.stopped

    pub breaks_keep : (p : Node S) (y : S) (g' : Given) (w' : Waits) (a' : Asked) → BreaksOff steps stops fault p y g' w' a' → Q p.end y
    breaks_keep p y g' w' a' h = behind p.end h.mid.end y (runs_keep h.turns p h.mid h.runs) (broke_keep h.mid.clock h.mid.stream h.mid.end y h.mid.given g' h.mid.waits w' h.mid.asked a' h.broke)

    pub opening_keep : (p : Node S) (y : S) (g' : Given) (w' : Waits) (a' : Asked) → OpeningStopped steps stops fault p y g' w' a' → Q p.end y
    opening_keep p y g' w' a' h = stopped_keep h.now p.stream p.end y p.given g' _ h.stopped

    pub short_keep : (opens : Bool) (p : Node S) (y : S) (g' : Given) (w' : Waits) (a' : Asked) → EndsShort steps stops fault opens p y g' w' a' → Q p.end y
    short_keep opens p y g' w' a' (inl h) = opening_keep p y g' w' a' h.1
    short_keep opens p y g' w' a' (inr h) = behind p.end h.0.end y (begins_keep opens p h.0 h.1) (breaks_keep h.0 y g' w' a' h.2)
