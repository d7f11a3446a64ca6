use Rattle.std.proofs.Common.{◌≡◌, length, Some}
use Rattle.disk_core.specs.Disk.{Held}
use Rattle.disk_core.specs.Room.{SameRoom}
use Rattle.checkpoint_journal.specs.Format.{most_records}
use Rattle.checkpoint_journal.proofs.Walk.{SoFar}
use Rattle.checkpoint_journal.proofs.area.read_area.Given as goal

abbrev pub invariant-loop-n : goal.invariant-loop-n
invariant-loop-n g l = record {
  read : (held : Held) → g.D.Disk.holds l.fn.disk ≡ Some held → SoFar most_records l.fn.start l.n l.contents held.bytes;
  size : length l.contents ≡ l.n;
  kept : g.D.Disk.holds l.disk ≡ g.D.Disk.holds l.fn.disk;
  room : SameRoom g.D.Disk.reach g.D.Disk.calls_left l.fn.disk l.disk;
  cause : g.D.Disk.faults l.disk ≡ g.D.Disk.faults l.fn.disk;
}
