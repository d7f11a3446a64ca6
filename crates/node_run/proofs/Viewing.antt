-- Steps that are seen as those of something else are so in a turn, and in turn after turn.
use Rattle.std.proofs.Common.{◌≡◌, ℕ, inl, inr, Bool, true, false, List, [], ◌∷◌, refl, ap, ◌∙◌}
use Rattle.std.specs.Prelude.{Option, Some, None}
use Rattle.rand_core.specs.Stream.{Stream, fill_bytes}
use Rattle.port_traits.specs.Packets.{Moments}
use Rattle.port_events.specs.declared.end.Event.{Event}
use Rattle.port_events.specs.declared.end.Out.{Out}
use Rattle.port_events.specs.declared.giving.TurnFault.{TurnFault}
use Rattle.port_events.specs.Feeding.{Given, Leads, Fed, Ends, Stopped}
use Rattle.port_turn.specs.Turns.{Waits, Asked, Turn, Turned, Broke}
use Rattle.port_turn.specs.Runs.{Node, node, MakesTurn, Runs, Opens, BreaksOff, OpeningStopped}
use Rattle.node_run.specs.Serves.{Begins, Serves, EndsShort}

module _ {S P : Type 0} (f : S → P) (steps : S → ℕ → List ℕ → Event → List Out → S → Type 0) (steps' : P → ℕ → List ℕ → Event → List Out → P → Type 0)
    (one : (x y : S) (now : ℕ) (block : List ℕ) (e : Event) (outs : List Out) → steps x now block e outs y → steps' (f x) now block e outs (f y)) where
  leads_view : (now : ℕ) (s t : Stream) (x y : S) (es : List Event) (outs : List Out) → Leads steps now s x es outs t y → Leads steps' now s (f x) es outs t (f y)
  leads_view now s t x y [] outs a = (a.0, a.1, ap f a.2)
  leads_view now s t x y (e ∷ es) outs a =
      let block = fill_bytes 16 s in
      (f a.0, a.1, a.2, one x a.0 now block.0 e a.1 a.3, a.4, leads_view now block.1 t a.0 y es a.2 a.5)

  fed_view : (now : ℕ) (s t : Stream) (x y : S) (g g' : Given) (es : List Event) → Fed steps now s t x y g g' es → Fed steps' now s t (f x) (f y) g g' es
  fed_view now s t x y g g' es a = record { outs = a.outs; leads = leads_view now s t x y es a.outs a.leads; gave = a.gave }

  pub turned_view : (s t : Stream) (x y : S) (g g' : Given) (w w' : Waits) (a a' : Asked) (turn : Turn) → Turned steps s t x y g g' w w' a a' turn → Turned steps' s t (f x) (f y) g g' w w' a a' turn
  turned_view s t x y g g' w w' a a' turn h = record { takes = h.takes; asks = h.asks; fed = fed_view turn.now s t x y g g' _ h.fed }

  -- a node whose end is seen so
  abbrev pub seen : Node S → Node P
  seen n = node n.stream n.clock (f n.end) n.given n.waits n.asked

  makes_view : (t : Turn) (p q : Node S) → MakesTurn steps t p q → MakesTurn steps' t (seen p) (seen q)
  makes_view t p q h = record { turned = turned_view _ _ _ _ _ _ _ _ _ _ t h.turned; moment_is = h.moment_is; clock_is = h.clock_is }

  pub runs_view : (ts : List Turn) (p q : Node S) → Runs steps ts p q → Runs steps' ts (seen p) (seen q)
  runs_view [] p q h = ap seen h
  runs_view (t ∷ ts) p q h = (seen h.0, makes_view t p h.0 h.1, runs_view ts h.0 q h.2)

  pub opens_view : (p q : Node S) → Opens steps p q → Opens steps' (seen p) (seen q)
  opens_view p q h = record {
    now = h.now;
    moment_is = h.moment_is;
    clock_is = h.clock_is;
    fed = fed_view h.now _ _ _ _ _ _ _ h.fed;
    waits = h.waits;
    asks = h.asks;
  }

  begins_view : (opens : Bool) (p q : Node S) → Begins steps opens p q → Begins steps' opens (seen p) (seen q)
  begins_view true p q h = opens_view p q h
  begins_view false p q h = ap seen h

  pub serves_view : (opens : Bool) (turns : ℕ) (p q : Node S) → Serves steps opens turns p q → Serves steps' opens turns (seen p) (seen q)
  serves_view opens turns p q h = (seen h.0, begins_view opens p h.0 h.1, h.2, h.3, runs_view h.2 h.0 q h.4)

  module _ {F : Type 0} (stops : S → ℕ → List ℕ → Event → F → S → Type 0) (stops' : P → ℕ → List ℕ → Event → F → P → Type 0)
      (two : (x y : S) (now : ℕ) (block : List ℕ) (e : Event) (stop : F) → stops x now block e stop y → stops' (f x) now block e stop (f y)) (fault : TurnFault F) where
    ends_view : (now : ℕ) (s : Stream) (x y : S) (last : Option Event) (part : List Out) → Ends steps stops now fault s x y last part → Ends steps' stops' now fault s (f x) (f y) last part
    ends_view now s x y None part h = (ap f h.0, h.1, h.2)
    ends_view now s x y (Some e) part (inl h) = inl (record { outs = h.outs; made = one x y now (fill_bytes 16 s).0 e h.outs h.made; cut = h.cut })
    ends_view now s x y (Some e) part (inr h) = inr (record { stop = h.stop; fault_is = h.fault_is; why = two x y now (fill_bytes 16 s).0 e h.stop h.why; nothing = h.nothing })

    stopped_view : (now : ℕ) (s : Stream) (x y : S) (g g' : Given) (es : List Event) → (h : Stopped steps stops now fault s x y g g' es)
        → (k : Stopped steps' stops' now fault s (f x) (f y) g g' es) × (k.made ≡ h.made)
    stopped_view now s x y g g' es h = (
      record {
        made = h.made;
        outs = h.outs;
        mid_stream = h.mid_stream;
        mid = f h.mid;
        leads = leads_view now s h.mid_stream x h.mid h.made h.outs h.leads;
        last = h.last;
        part = h.part;
        ends = ends_view now h.mid_stream h.mid y h.last h.part h.ends;
        taken = h.taken;
        gave = h.gave;
      },
      refl,
    )

    pub broke_view : (c : Option Moments) (s : Stream) (x y : S) (g g' : Given) (w w' : Waits) (a a' : Asked)
        → Broke steps stops fault c s x y g g' w w' a a' → Broke steps' stops' fault c s (f x) (f y) g g' w w' a a'
    broke_view c s x y g g' w w' a a' h =
        let k = stopped_view h.turn.now s x y g g' _ h.stopped in
        record {
          turn = h.turn;
          moment_is = h.moment_is;
          tick = h.tick;
          port = h.port;
          takes = h.takes;
          ticks = h.ticks;
          stopped = k.0;
          asks = h.asks;
          later = h.later;
          over = (h.over.0, k.1 ∙ h.over.1);
        }

    pub breaks_view : (p : Node S) (y : S) (g' : Given) (w' : Waits) (a' : Asked) → BreaksOff steps stops fault p y g' w' a' → BreaksOff steps' stops' fault (seen p) (f y) g' w' a'
    breaks_view p y g' w' a' h = record {
      turns = h.turns;
      mid = seen h.mid;
      runs = runs_view h.turns p h.mid h.runs;
      broke = broke_view h.mid.clock h.mid.stream h.mid.end y h.mid.given g' h.mid.waits w' h.mid.asked a' h.broke;
    }

    pub opening_view : (p : Node S) (y : S) (g' : Given) (w' : Waits) (a' : Asked) → OpeningStopped steps stops fault p y g' w' a' → OpeningStopped steps' stops' fault (seen p) (f y) g' w' a'
    opening_view p y g' w' a' h = record {
      now = h.now;
      moment_is = h.moment_is;
      stopped = (stopped_view h.now p.stream p.end y p.given g' _ h.stopped).0;
      waits = h.waits;
      asks = h.asks;
    }

    pub short_view : (opens : Bool) (p : Node S) (y : S) (g' : Given) (w' : Waits) (a' : Asked) → EndsShort steps stops fault opens p y g' w' a' → EndsShort steps' stops' fault opens (seen p) (f y) g' w' a'
    short_view opens p y g' w' a' (inl h) = inl (h.0, opening_view p y g' w' a' h.1)
    short_view opens p y g' w' a' (inr h) = inr (seen h.0, begins_view opens p h.0 h.1, breaks_view h.0 y g' w' a' h.2)
