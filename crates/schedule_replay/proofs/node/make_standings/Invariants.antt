use Rattle.std.proofs.Common.{◌≡◌, take}
use Rattle.schedule_replay.proofs.Standings.{HaveRoom}
use Rattle.schedule_replay.proofs.node.make_standings.Given as goal

abbrev pub invariant-loop-tunnel : goal.invariant-loop-tunnel
invariant-loop-tunnel l = (l.standings.entries ≡ l.fn.standings.entries) × HaveRoom l.standings (take l.tunnel-index l.tunnels)
