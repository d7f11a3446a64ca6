use Rattle.std.proofs.Common.{◌≡◌, ◌<◌, length, get_or, rules}
use Rattle.id_table.specs.Ids.{put}
use Rattle.tunnel_recovery.proofs.Sessions.{filled_next}
use Rattle.tunnel_recovery.proofs.left.put_all.Goals as goal

pub loop-session-preserved : goal.loop-session-preserved
loop-session-preserved c =
    let is = c.args.sessions.now in
    let k = c.loop-session.session-index in
    let lt : k < length is = search rules in
    let new : c.insert.new.self.entries ≡ put c.loop-session.table.entries (get_or is k 0) tt = search rules in
    filled_next c.loop-session.table.entries c.insert.new.self.entries tt is k lt c.requires.ascend c.loop-session.invariant new
