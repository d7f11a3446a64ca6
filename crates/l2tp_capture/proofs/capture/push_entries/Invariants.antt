use Rattle.std.proofs.Common.{◌≡◌, ◌++◌, drop}
use Rattle.std.specs.List.{flat_map, AllByRecursion}
use Rattle.report_reading.specs.Reading.{IsCarried}
use Rattle.l2tp_capture.specs.Captures.{record_of}
use Rattle.l2tp_capture.proofs.capture.push_entries.Given as goal

abbrev pub invariant-loop-entry : goal.invariant-loop-entry
invariant-loop-entry l =
    record {
      written : l.out ++ flat_map record_of (drop l.entry-index l.entries) ≡ l.fn.out ++ flat_map record_of l.entries;
      carried : AllByRecursion IsCarried (drop l.entry-index l.entries);
    }
