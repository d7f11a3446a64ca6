use Rattle.std.proofs.Common.{◌≡◌, ◌≤◌, ◌++◌, [], length, take, List, ℕ, false, is_some}
use Rattle.std.specs.List.{AllByRecursion}
use Rattle.checkpoint_journal.specs.State.{HasRoom}
use Rattle.step_ledger.specs.Committing.{IsUnmarked}
use Rattle.end_store.specs.Records.{fitting, spelled}
use Rattle.end_store.specs.Stored.{with_records, IsStored}
use Rattle.end_store.proofs.store.Store.commit.Given as goal

abbrev pub invariant-loop-next : goal.invariant-loop-next
invariant-loop-next g l = record {
  live : l.fn.self.journal.halted ≡ false;
  state : l.self ≡ with_records l.fn.self (take l.next-index l.records);
  room : HasRoom g.D.Disk.reach g.D.Disk.calls_left l.self.journal l.disk;
  spare : length l.records ≤ l.fn.self.spare;
  journal_spare : length l.records ≤ l.fn.self.journal.spare;
  unmarked : AllByRecursion IsUnmarked l.records;
  so_far : (before : List (List ℕ)) → IsStored l.fn.self before (g.D.Disk.holds l.fn.disk)
      → IsStored l.self (before ++ spelled (fitting l.fn.self.kept (take l.next-index l.records))) (g.D.Disk.holds l.disk);
  untouched : fitting l.fn.self.kept (take l.next-index l.records) ≡ [] → l.disk ≡ l.fn.disk;
  tells : is_some (g.D.Disk.holds l.disk) ≡ is_some (g.D.Disk.holds l.fn.disk);
  faults : g.D.Disk.faults l.disk ≡ g.D.Disk.faults l.fn.disk;
}
