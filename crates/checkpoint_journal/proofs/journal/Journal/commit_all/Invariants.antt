use Rattle.std.proofs.Common.{◌≡◌, ◌+◌, ◌-◌, ◌≤◌, ◌++◌, length, take, List, ℕ, false, is_some}
use Rattle.checkpoint_journal.specs.State.{HasContents, HasRoom}
use Rattle.checkpoint_journal.proofs.journal.Journal.commit_all.Given as goal

abbrev pub invariant-loop-content : goal.invariant-loop-content
invariant-loop-content g l = record {
  live : l.fn.self.halted ≡ false;
  state : l.self ≡ record l.fn.self { records = l.fn.self.records + l.content-index; spare = l.fn.self.spare - l.content-index };
  room : HasRoom g.D.Disk.reach g.D.Disk.calls_left l.self l.disk;
  spare : length l.contents ≤ l.fn.self.spare;
  so_far : (before : List (List ℕ)) → HasContents l.fn.self before (g.D.Disk.holds l.fn.disk)
      → HasContents l.self (before ++ take l.content-index l.contents) (g.D.Disk.holds l.disk);
  tells : is_some (g.D.Disk.holds l.disk) ≡ is_some (g.D.Disk.holds l.fn.disk);
  faults : g.D.Disk.faults l.disk ≡ g.D.Disk.faults l.fn.disk;
}
