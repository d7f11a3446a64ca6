use Rattle.std.proofs.Common.{◌≡◌, length, arith, sym}
use Rattle.session_book.specs.Books.{calls_of}
use Rattle.session_book.proofs.Counts.{none_go}
use Rattle.session_book.proofs.book.remove_calls_of.Goals as goal

pub returns-else-count-gt0-clause-items : goal.returns-else-count-gt0-clause-items
returns-else-count-gt0-clause-items c =
    let none : length (calls_of c.args.tunnel c.args.calls.now.items) ≡ 0 = (let n = c.requires.counted in let out = c.if-count-gt0.false in omega arith) in
    sym (none_go c.args.tunnel c.args.calls.now.items none)
