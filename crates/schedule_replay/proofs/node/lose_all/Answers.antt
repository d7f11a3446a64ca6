use Rattle.std.proofs.Common.{◌≡◌, ◌∙◌, get_or}
use Rattle.std.specs.Prelude.{unwrap_or}
use Rattle.id_table.specs.Ids.{at, put}
use Rattle.world_model.specs.World.{no_standing, lost_with}
use Rattle.schedule_replay.proofs.Standings.{next_has_room, loses_one, rest_have_room}
use Rattle.schedule_replay.proofs.node.lose_all.Goals as goal

pub fill-requires : goal.fill-requires
fill-requires c = next_has_room _ c.args.tunnels.now c.loop-tunnel.tunnel-index c.loop-tunnel-test.true c.loop-tunnel.invariant.1

pub loop-tunnel-preserved : goal.loop-tunnel-preserved
loop-tunnel-preserved c =
    let is = c.args.tunnels.now in
    let k = c.loop-tunnel.tunnel-index in
    let i = get_or is k 0 in
    let xs = c.loop-tunnel.standings.entries in
    let after : c.fill.new.self.entries ≡ put xs i (lost_with (at c.args.end.now.tunnels i) (unwrap_or (at xs i) no_standing)) = cc in (
      loses_one c.args.end.now is k c.loop-tunnel-test.true xs c.fill.new.self.entries after ∙ c.loop-tunnel.invariant.0,
      rest_have_room _ _ c.fill.ensures.room is k c.loop-tunnel-test.true c.loop-tunnel.invariant.1,
    )
