-- A node that may open a tunnel, and then makes its turns.
use Rattle.std.specs.Prelude.{ℕ, ◌≡◌, ◌⊎◌, Bool, true, false, List, length}
use Rattle.port_events.specs.declared.end.Event.{Event}
use Rattle.port_events.specs.declared.end.Out.{Out}
use Rattle.port_events.specs.declared.giving.TurnFault.{TurnFault}
use Rattle.port_events.specs.Feeding.{Given}
use Rattle.port_turn.specs.Turns.{Waits, Asked, Turn}
use Rattle.port_turn.specs.Runs.{Node, Opens, Runs, BreaksOff, OpeningStopped}

-- a tunnel is opened, where one is to be
abbrev pub Begins : {S : Type 0} → (S → ℕ → List ℕ → Event → List Out → S → Type 0) → Bool → Node S → Node S → Type 0
Begins steps true old new = Opens steps old new
Begins steps false old new = new ≡ old

-- then so many turns are made
abbrev pub Serves : {S : Type 0} → (S → ℕ → List ℕ → Event → List Out → S → Type 0) → Bool → ℕ → Node S → Node S → Type 0
Serves {S} steps opens turns old new = (mid : Node S) × Begins steps opens old mid × (ts : List Turn) × (length ts ≡ turns) × Runs steps ts mid new

-- the tunnel wasn't opened; or, behind that, turns were made and one ended early
abbrev pub EndsShort : {S F : Type 0} → (S → ℕ → List ℕ → Event → List Out → S → Type 0) → (S → ℕ → List ℕ → Event → F → S → Type 0) → TurnFault F → Bool → Node S → S → Given → Waits → Asked → Type 0
EndsShort {S} steps stops fault opens old end' given' waits' asked' =
    ((opens ≡ true) × OpeningStopped steps stops fault old end' given' waits' asked')
    ⊎ ((mid : Node S) × Begins steps opens old mid × BreaksOff steps stops fault mid end' given' waits' asked')
