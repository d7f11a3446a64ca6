use Rattle.std.proofs.Common.{◌≡◌, drop}
use Rattle.world_model.specs.World.{loses_counts}
use Rattle.schedule_replay.proofs.Standings.{HaveRoom}
use Rattle.schedule_replay.proofs.node.lose_all.Given as goal

abbrev pub invariant-loop-tunnel : goal.invariant-loop-tunnel
invariant-loop-tunnel l =
    (loses_counts l.end (drop l.tunnel-index l.tunnels) l.standings.entries ≡ loses_counts l.end l.tunnels l.fn.standings.entries) ×
    HaveRoom l.standings (drop l.tunnel-index l.tunnels)
