-- What a port gives, as an event.
use Rattle.std.specs.Prelude.{ℕ, ◌≡◌, ◌⊎◌, List, take, drop, slice_get, option_map, Option, Some, None}
use Rattle.port_traits.specs.declared.packets.Datagram.{Datagram}
use Rattle.port_traits.specs.declared.packets.LowerFrame.{LowerFrame}
use Rattle.port_events.specs.declared.end.Event.{Event}
use Rattle.port_events.specs.declared.end.Event.TheVariants as event
use Rattle.port_events.specs.declared.giving.TurnFault.{TurnFault}
use Rattle.port_events.specs.declared.giving.TurnFault.TheVariants.{NoMemory}

-- the event that is made of what a port gave
abbrev pub datagram_event : Datagram → Event
datagram_event d = event.Datagram d.peer (take 2048 d.bytes)

abbrev pub frame_event : List ℕ → Event
frame_event frame = event.Frame (take 2048 frame)

abbrev pub lower_event : LowerFrame → Event
lower_event l = event.Lower l.session (take 2048 l.frame)

-- the event is that of the first that waits, and there is none exactly where nothing waits, on a port that tells it
abbrev pub TellsEvent : {T : Type 0} → (T → Event) → Option (List T) → Option Event → Type 0
TellsEvent make None got = Unit {0}
TellsEvent make (Some waiting) got = got ≡ option_map make (slice_get waiting 0)

-- What is left of a port, and the event that became of what was taken: that of the first. Where there is none, nothing was
-- taken, or memory was wanting for what was taken.
abbrev pub MayTell : {F T : Type 0} → TurnFault F → (T → Event) → Option (List T) → Option (List T) → Option Event → Type 0
MayTell fault make old new None = (new ≡ old) ⊎ ((fault ≡ NoMemory) × (new ≡ option_map (drop 1) old))
MayTell fault make old new (Some e) = TellsEvent make old (Some e) × (new ≡ option_map (drop 1) old)
