use Rattle.std.proofs.Common.{◌∙◌}
use Rattle.schedule_replay.proofs.Standings.{room_for_one_more}
use Rattle.schedule_replay.proofs.node.make_standings.Goals as goal

pub loop-tunnel-preserved : goal.loop-tunnel-preserved
loop-tunnel-preserved c = (
  c.make_room.ensures.entries ∙ c.loop-tunnel.invariant.0,
  room_for_one_more _ _ c.make_room.ensures.room c.args.tunnels.now c.loop-tunnel.tunnel-index c.loop-tunnel-test.true c.loop-tunnel.invariant.1
      c.in_ok-make_room.ensures.made,
)
