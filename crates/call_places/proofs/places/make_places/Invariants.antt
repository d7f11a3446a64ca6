use Rattle.std.proofs.Common.{◌≡◌, take}
use Rattle.call_places.specs.Rooms.{HaveRoom}
use Rattle.call_places.proofs.places.make_places.Given as goal

abbrev pub invariant-loop-session : goal.invariant-loop-session
invariant-loop-session l = (l.places.entries ≡ l.fn.places.entries) × HaveRoom l.places (take l.session-index l.sessions)
