use Rattle.std.proofs.Common.{◌-◌}
use Rattle.world_checkpoint.proofs.Crashes.{leaves_first}
use Rattle.world_checkpoint.proofs.crash.commit_and_crash.Goals as goal

pub returns : goal.returns
returns g c =
    let s = c.args.store.now in
    let contents = c.requires.live.kept.0 in
    let stored = c.requires.live.kept.1 in
    let least = c.commit-acknowledged.new.self.journal.records - s.journal.records in
    leaves_first s contents c.args.records.now least stored.journal.count (g.D.Disk.holds c.args.disk.now) (g.D.Disk.holds c.commit-acknowledged.new.disk)
    (g.D.Disk.holds c.crash.new.self) c.commit-acknowledged.ensures.tells (c.commit-acknowledged.ensures.crash contents stored) c.crash.ensures.image
