-- What follows of turns that were made.
use Rattle.std.specs.Prelude.{ℕ, ◌+◌, ◌≡◌, Bool, List, [], ◌∷◌, length, Option, Some}
use Rattle.port_events.specs.declared.end.Event.{Event}
use Rattle.port_events.specs.declared.end.Event.TheVariants as event
use Rattle.port_turn.specs.Turns.{Turn}
use Rattle.held_ports.specs.Around.{Around}
use Rattle.pool_turns.specs.Turns.{Put, Draws, Runs, Serves, BreaksOff}

-- how many datagrams the turns took
abbrev pub took_one : Option Event → ℕ
took_one (Some (event.Datagram peer bytes)) = 1
took_one other = 0

abbrev pub datagrams : List Turn → ℕ
datagrams [] = 0
datagrams (t ∷ ts) = took_one t.datagram + datagrams ts

-- as many are put as the link gave
abbrev pub PutsAll : Type 0
PutsAll = (ts : List Turn) (ps : List Put) (old new : Around) → Runs ts ps old new → length ps ≡ datagrams ts

-- the ports may be given more afterwards
abbrev pub MayGiveMore : Type 0
MayGiveMore = (opens : Bool) (turns : ℕ) (ps : List Put) (old mid new : Around) → Serves opens turns ps old mid → Draws 0 mid new → Serves opens turns ps old new

-- a run that was made is one that may have ended early
abbrev pub IsOneOf : Type 0
IsOneOf = (opens : Bool) (turns : ℕ) (ps : List Put) (old mid new : Around) → Serves opens turns ps old mid → Draws 0 mid new → BreaksOff opens turns ps old new

abbrev pub MayGiveThen : Type 0
MayGiveThen = (opens : Bool) (turns : ℕ) (ps : List Put) (old mid new : Around) → BreaksOff opens turns ps old mid → Draws 0 mid new → BreaksOff opens turns ps old new
