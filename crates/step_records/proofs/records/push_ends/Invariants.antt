use Rattle.std.proofs.Common.{◌≡◌, ◌++◌, drop, map}
use Rattle.session_book.specs.declared.record.Record.TheVariants.{CallDown}
use Rattle.step_records.proofs.records.push_ends.Given as goal

abbrev pub invariant-loop-id : goal.invariant-loop-id
invariant-loop-id l = l.kept ++ map (λ s. CallDown s) (drop l.id-index l.ended) ≡ l.fn.kept ++ map (λ s. CallDown s) l.ended
