-- How events lead on, one after another.
use Rattle.std.specs.Prelude.{ℕ, ◌≡◌, List, [], ◌∷◌, ◌++◌}
use Rattle.rand_core.specs.Stream.{Stream, fill_bytes}
use Rattle.port_events.specs.declared.end.Event.{Event}
use Rattle.port_events.specs.declared.end.Out.{Out}
use Rattle.port_events.specs.declared.giving.TurnFault.{TurnFault}
use Rattle.port_events.specs.Giving.{IsAround}
use Rattle.port_events.specs.Feeding.{Given, Leads, Fed, Stopped}

-- events that were fed behind others were fed with them
abbrev pub FeedsJoin : {S : Type 0} → (S → ℕ → List ℕ → Event → List Out → S → Type 0) → Type 0
FeedsJoin {S} steps = (now : ℕ) (s t u : Stream) (x y z : S) (p q r : Given) (es fs : List Event)
    → Fed steps now s t x y p q es → Fed steps now t u y z q r fs → Fed steps now s u x z p r (es ++ fs)

module _ {S F : Type 0} (steps : S → ℕ → List ℕ → Event → List Out → S → Type 0) (stops : S → ℕ → List ℕ → Event → F → S → Type 0) where
  -- where events stop early behind others that were fed, all of the others are over
  abbrev pub StopsJoin : Type 0
  StopsJoin = (now : ℕ) (fault : TurnFault F) (s t : Stream) (x y z : S) (p q r : Given) (es fs : List Event)
      → Fed steps now s t x y p q es → (later : Stopped steps stops now fault t y z q r fs)
      → (all : Stopped steps stops now fault s x z p r (es ++ fs)) × (all.made ≡ es ++ later.made)

  -- where nothing was taken, nothing goes out
  abbrev pub NothingStops : Type 0
  NothingStops = (now : ℕ) (fault : TurnFault F) (s : Stream) (x : S) (p : Given) → IsAround fault → Stopped steps stops now fault s x x p p []

-- what events lead to where a step is a function
pub record Ran (S : Type 0) : Type 0 where
  pub stream : Stream
  pub end : S
  pub outs : List Out

module _ {S : Type 0} (after : S → ℕ → List ℕ → Event → S) (outputs : S → ℕ → List ℕ → Event → List Out) (now : ℕ) where
  abbrev pub run : Stream → S → List Event → Ran S
  run stream end [] = record { stream = stream; end = end; outs = [] }
  run stream end (e ∷ es) =
      let block = fill_bytes 16 stream in
      let later = run block.1 (after end now block.0 e) es in
      record { stream = later.stream; end = later.end; outs = outputs end now block.0 e ++ later.outs }

-- where the end after a step, and what the step gives, are those of functions, it is so of what events lead to
abbrev pub LeadsAsFunction : {S : Type 0} → (S → ℕ → List ℕ → Event → List Out → S → Type 0) → Type 0
LeadsAsFunction {S} steps = (after : S → ℕ → List ℕ → Event → S) (outputs : S → ℕ → List ℕ → Event → List Out)
    → ((x y : S) (now : ℕ) (block : List ℕ) (e : Event) (outs : List Out) → steps x now block e outs y → (y ≡ after x now block e) × (outs ≡ outputs x now block e))
    → (now : ℕ) (s t : Stream) (x y : S) (es : List Event) (outs : List Out) → Leads steps now s x es outs t y → record { stream = t; end = y; outs = outs } ≡ run after outputs now s x es
