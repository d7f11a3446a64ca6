use Rattle.std.proofs.Common.{◌≡◌, ℕ, ◌++◌, drop}
use Rattle.id_table.specs.Ids.{at}
use Rattle.session_book.specs.Books.{calls_of}
use Rattle.end_core.specs.Keeping.{calls_in}
use Rattle.end_core.proofs.keeping.calls_by_tunnel.Given as goal

abbrev pub invariant-loop-call : goal.invariant-loop-call
invariant-loop-call l = (i : ℕ) → calls_in (at l.table.entries i) ++ calls_of i (drop l.call-index l.calls) ≡ calls_of i l.calls
