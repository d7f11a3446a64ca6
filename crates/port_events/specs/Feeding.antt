-- What events lead to, and what goes out.
use Rattle.std.specs.Prelude.{ℕ, ◌≡◌, ◌⊎◌, List, [], ◌∷◌, ◌++◌, Option, Some, None}
use Rattle.rand_core.specs.Stream.{Stream, fill_bytes}
use Rattle.port_traits.specs.declared.packets.Datagram.{Datagram}
use Rattle.port_traits.specs.declared.packets.LowerFrame.{LowerFrame}
use Rattle.port_events.specs.declared.end.Event.{Event}
use Rattle.port_events.specs.declared.end.Out.{Out}
use Rattle.port_events.specs.declared.giving.TurnFault.{TurnFault}
use Rattle.port_events.specs.declared.giving.TurnFault.TheVariants as faults
use Rattle.port_events.specs.Giving.{Gave, IsCut, IsAround}

abbrev pub some_of : Option Event → List Event
some_of None = []
some_of (Some e) = e ∷ []

module _ {S : Type 0} (steps : S → ℕ → List ℕ → Event → List Out → S → Type 0) (now : ℕ) where
  -- Events lead a stream and an end to others: each is a step with the next block of the stream, at the moment of the turn, and what the steps
  -- give comes one behind the other.
  abbrev pub Leads : Stream → S → List Event → List Out → Stream → S → Type 0
  Leads stream end [] outs stream' end' = (outs ≡ []) × (stream' ≡ stream) × (end' ≡ end)
  Leads stream end (e ∷ es) outs stream' end' =
      (mid : S) × (first : List Out) × (later : List Out) × steps end now (fill_bytes 16 stream).0 e first mid
      × (outs ≡ first ++ later) × Leads (fill_bytes 16 stream).1 mid es later stream' end'

-- what the ports were given
pub record Given : Type 0 where
  pub link : Option (List Datagram)
  pub ether : Option (List (List ℕ))
  pub up : Option (List LowerFrame)

abbrev pub given : Option (List Datagram) → Option (List (List ℕ)) → Option (List LowerFrame) → Given
given link ether up = record { link = link; ether = ether; up = up }

abbrev pub Goes : Given → Given → List Out → Type 0
Goes old new outs = Gave old.link new.link old.ether new.ether old.up new.up outs

module _ {S : Type 0} (steps : S → ℕ → List ℕ → Event → List Out → S → Type 0) (now : ℕ) where
  -- the end made a step on each of the events, and all that the steps give went out
  pub record Fed (stream stream' : Stream) (end end' : S) (g g' : Given) (es : List Event) : Type 0 where
    pub outs : List Out
    pub leads : Leads steps now stream end es outs stream' end'
    pub gave : Goes g g' outs

module _ {S F : Type 0} (steps : S → ℕ → List ℕ → Event → List Out → S → Type 0) (stops : S → ℕ → List ℕ → Event → F → S → Type 0) (now : ℕ) (fault : TurnFault F) where
  -- the end made its step on an event, and a part of what the step gives went out: at the next output its port failed
  pub record CutShort (stream : Stream) (end end' : S) (e : Event) (part : List Out) : Type 0 where
    pub outs : List Out
    pub made : steps end now (fill_bytes 16 stream).0 e outs end'
    pub cut : IsCut fault outs part

  -- the end made no step on an event, and nothing of it went out
  pub record Refused (stream : Stream) (end end' : S) (e : Event) (part : List Out) : Type 0 where
    pub stop : F
    pub fault_is : fault ≡ faults.Stopped stop
    pub why : stops end now (fill_bytes 16 stream).0 e stop end'
    pub nothing : part ≡ []

  -- what became of the last event, and what of it went out; where there was none, what is around the end failed
  abbrev pub Ends : Stream → S → S → Option Event → List Out → Type 0
  Ends stream end end' None part = (end' ≡ end) × (part ≡ []) × IsAround fault
  Ends stream end end' (Some e) part = CutShort stream end end' e part ⊎ Refused stream end end' e part

  -- The end made a step on each of the first events, and all that these steps give went out. Then it was given the last one, if not all were
  -- among the first. So nothing is taken before what came of the events before it is out.
  pub record Stopped (stream : Stream) (end end' : S) (g g' : Given) (es : List Event) : Type 0 where
    pub made : List Event
    pub outs : List Out
    pub mid_stream : Stream
    pub mid : S
    pub leads : Leads steps now stream end made outs mid_stream mid
    pub last : Option Event
    pub part : List Out
    pub ends : Ends mid_stream mid end' last part
    pub taken : es ≡ made ++ some_of last
    pub gave : Goes g g' (outs ++ part)
