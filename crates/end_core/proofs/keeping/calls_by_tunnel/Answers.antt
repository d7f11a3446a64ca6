use Rattle.std.proofs.Common.{ℕ, List, Option, ◌++◌, ap, ◌∙◌}
use Rattle.id_table.specs.Ids.{at, at-none}
use Rattle.session_book.specs.declared.record.BookCall.{BookCall}
use Rattle.session_book.specs.Books.{calls_of}
use Rattle.end_core.specs.Keeping.{calls_in}
use Rattle.end_core.proofs.keeping.calls_by_tunnel.Goals as goal

pub loop-call-init : goal.loop-call-init
loop-call-init c i =
    ap (λ (es : List (ℕ × List BookCall)). calls_in (at es i) ++ calls_of i c.args.calls.now) c.new-table.ensures.entries
    ∙ ap (λ (o : Option (List BookCall)). calls_in o ++ calls_of i c.args.calls.now) (at-none i)
