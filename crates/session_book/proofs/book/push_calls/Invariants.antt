use Rattle.std.proofs.Common.{◌≡◌, ◌++◌, map, drop}
use Rattle.session_book.specs.Spelling.{content_of, calls_records}
use Rattle.session_book.proofs.book.push_calls.Given as goal

abbrev pub invariant-loop-call : goal.invariant-loop-call
invariant-loop-call l =
    l.contents ++ map (λ r. content_of r) (calls_records (drop l.call-index l.calls)) ≡ l.initial.contents ++ map (λ r. content_of r) (calls_records l.calls)
