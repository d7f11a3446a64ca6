use Rattle.std.proofs.Common.{◌≡◌, ◌++◌}
use Rattle.step_records.proofs.Ceilings.{passed}
use Rattle.step_records.proofs.records.push_ceilings.Given as goal

abbrev pub invariant-loop-rises : goal.invariant-loop-rises
invariant-loop-rises l = l.kept ≡ l.initial.kept ++ passed l.space l.before l.rises
