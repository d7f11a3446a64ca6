use Rattle.std.proofs.Common.{◌≡◌, drop}
use Rattle.end_model.specs.End.{placed}
use Rattle.call_places.specs.Rooms.{HaveRoom}
use Rattle.call_places.proofs.places.place_all.Given as goal

abbrev pub invariant-loop-session : goal.invariant-loop-session
invariant-loop-session l =
    (placed l.tunnel (drop l.session-index l.sessions) l.places.entries ≡ placed l.tunnel l.sessions l.fn.places.entries) ×
    HaveRoom l.places (drop l.session-index l.sessions)
