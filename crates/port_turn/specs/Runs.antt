-- Turn after turn.
use Rattle.std.specs.Prelude.{ℕ, ◌≡◌, List, [], ◌∷◌, Option, option_map, IfSome}
use Rattle.rand_core.specs.Stream.{Stream}
use Rattle.port_traits.specs.Packets.{Moments, moment, passed}
use Rattle.port_events.specs.declared.end.Event.{Event}
use Rattle.port_events.specs.declared.end.Event.TheVariants as event
use Rattle.port_events.specs.declared.end.Out.{Out}
use Rattle.port_events.specs.declared.giving.TurnFault.{TurnFault}
use Rattle.port_events.specs.Feeding.{Given, Fed, Stopped}
use Rattle.port_turn.specs.Turns.{Waits, Asked, Turn, Turned, Broke}

-- an end with all that its outside tells
pub record Node (S : Type 0) : Type 0 where
  pub stream : Stream
  pub clock : Option Moments
  pub end : S
  pub given : Given
  pub waits : Waits
  pub asked : Asked

abbrev pub node : {S : Type 0} → Stream → Option Moments → S → Given → Waits → Asked → Node S
node stream clock end given waits asked = record { stream = stream; clock = clock; end = end; given = given; waits = waits; asked = asked }

module _ {S : Type 0} (steps : S → ℕ → List ℕ → Event → List Out → S → Type 0) where
  -- a turn, at the next moment of the clock
  pub record MakesTurn (t : Turn) (old new : Node S) : Type 0 where
    pub turned : Turned steps old.stream new.stream old.end new.end old.given new.given old.waits new.waits old.asked new.asked t
    pub moment_is : IfSome old.clock (λ moments. t.now ≡ moment moments)
    pub clock_is : new.clock ≡ option_map passed old.clock

  -- a tunnel is opened, at the next moment of the clock
  pub record Opens (old new : Node S) : Type 0 where
    pub now : ℕ
    pub moment_is : IfSome old.clock (λ moments. now ≡ moment moments)
    pub clock_is : new.clock ≡ option_map passed old.clock
    pub fed : Fed steps now old.stream new.stream old.end new.end old.given new.given (event.Open ∷ [])
    pub waits : new.waits ≡ old.waits
    pub asks : new.asked ≡ old.asked

  abbrev pub Runs : List Turn → Node S → Node S → Type 0
  Runs [] old new = new ≡ old
  Runs (t ∷ ts) old new = (mid : Node S) × MakesTurn t old mid × Runs ts mid new

module _ {S F : Type 0} (steps : S → ℕ → List ℕ → Event → List Out → S → Type 0) (stops : S → ℕ → List ℕ → Event → F → S → Type 0) where
  -- whole turns, and then one that ended early
  pub record BreaksOff (fault : TurnFault F) (old : Node S) (end' : S) (given' : Given) (waits' : Waits) (asked' : Asked) : Type 0 where
    pub turns : List Turn
    pub mid : Node S
    pub runs : Runs steps turns old mid
    pub broke : Broke steps stops fault mid.clock mid.stream mid.end end' mid.given given' mid.waits waits' mid.asked asked'

  -- a tunnel was to be opened, and that ended early
  pub record OpeningStopped (fault : TurnFault F) (old : Node S) (end' : S) (given' : Given) (waits' : Waits) (asked' : Asked) : Type 0 where
    pub now : ℕ
    pub moment_is : IfSome old.clock (λ moments. now ≡ moment moments)
    pub stopped : Stopped steps stops now fault old.stream old.end end' old.given given' (event.Open ∷ [])
    pub waits : waits' ≡ old.waits
    pub asks : asked' ≡ old.asked
