-- The end that sends each datagram back.
use Rattle.std.specs.Prelude.{ℕ, ◌≡◌, List, [], ◌∷◌}
use Rattle.port_events.specs.declared.end.Event.{Event}
use Rattle.port_events.specs.declared.end.Event.TheVariants as event
use Rattle.port_events.specs.declared.end.Out.{Out}
use Rattle.port_events.specs.declared.end.Out.TheVariants as out

abbrev pub echoes : Event → List Out
echoes (event.Datagram peer bytes) = out.Send peer bytes ∷ []
echoes _ = []

-- its step, which leaves it as it was
abbrev pub EchoesBack : {S : Type 0} → S → ℕ → List ℕ → Event → List Out → S → Type 0
EchoesBack before now block e outs after = (after ≡ before) × (outs ≡ echoes e)
