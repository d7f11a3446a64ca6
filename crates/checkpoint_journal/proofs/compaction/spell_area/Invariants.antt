use Rattle.std.proofs.Common.{◌≡◌, take}
use Rattle.std.specs.List.{AllByRecursion}
use Rattle.checkpoint_journal.specs.Format.{spelled}
use Rattle.checkpoint_journal.specs.Laws.{Is31}
use Rattle.checkpoint_journal.proofs.compaction.spell_area.Given as goal

abbrev pub invariant-loop-content : goal.invariant-loop-content
invariant-loop-content l = record {
  so_far : l.area ≡ spelled (take l.content-index l.contents);
  each : AllByRecursion Is31 (take l.content-index l.contents);
}
