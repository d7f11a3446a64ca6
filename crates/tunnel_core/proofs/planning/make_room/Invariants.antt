use Rattle.std.proofs.Common.{◌≡◌, take}
use Rattle.tunnel_core.specs.Cores.{AllHaveRoom}
use Rattle.tunnel_core.proofs.planning.make_room.Given as goal

abbrev pub invariant-loop-session : goal.invariant-loop-session
invariant-loop-session l = (l.calls.entries ≡ l.fn.calls.entries) × AllHaveRoom l.calls (take l.session-index l.changed)
