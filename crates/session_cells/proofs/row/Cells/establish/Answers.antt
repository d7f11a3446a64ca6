use Rattle.std.proofs.Common.{sym}
use Rattle.session_cells.specs.declared.entry.Entry.TheVariants.{Establish}
use Rattle.session_cells.specs.Tokens.{log_of}
use Rattle.session_cells.proofs.Moves.{establish_lost, won_ends}
use Rattle.session_cells.proofs.Stories.{establish_ends}
use Rattle.session_cells.proofs.row.Cells.establish.Goals as goal

pub returns-then-found-word-clause-past : goal.returns-then-found-word-clause-past
returns-then-found-word-clause-past c =
    let v = log_of c.lookup-look.new.seen in
    let w = log_of c.exchange-found.new.seen in
    establish_ends v w c.args.i c.exchange-found.ensures.legal (won_ends v w (Establish c.args.i 0) c.args.i c.exchange-found.result c.bound_word-word.result c.if-found-word.true c.exchange-found.ensures.ends)

pub returns-else-found-word-clause-past : goal.returns-else-found-word-clause-past
returns-else-found-word-clause-past c =
    (establish_lost (log_of c.lookup-look.new.seen) (log_of c.exchange-found.new.seen) c.args.i c.in-Bound.tunnel c.in-Bound.peer c.bound_word-word.result c.exchange-found.result c.bound_word-word.ensures
    c.exchange-found.ensures.later.1 c.exchange-found.ensures.legal (sym c.in-Bound.ensures.look) c.if-found-word.false c.exchange-found.ensures.ends).1

pub returns-else-found-word-clause-not_bound : goal.returns-else-found-word-clause-not_bound
returns-else-found-word-clause-not_bound c =
    establish_lost (log_of c.lookup-look.new.seen) (log_of c.exchange-found.new.seen) c.args.i c.in-Bound.tunnel c.in-Bound.peer c.bound_word-word.result c.exchange-found.result c.bound_word-word.ensures
    c.exchange-found.ensures.later.1 c.exchange-found.ensures.legal (sym c.in-Bound.ensures.look) c.if-found-word.false c.exchange-found.ensures.ends
