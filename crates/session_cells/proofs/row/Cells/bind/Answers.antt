use Rattle.session_cells.specs.declared.entry.Entry.TheVariants.{Bind}
use Rattle.session_cells.specs.Tokens.{log_of}
use Rattle.session_cells.proofs.Moves.{won_ends}
use Rattle.session_cells.proofs.Stories.{bind_ends}
use Rattle.session_cells.proofs.row.Cells.bind.Goals as goal

pub returns-then-found-eq0-clause-born : goal.returns-then-found-eq0-clause-born
returns-then-found-eq0-clause-born c =
    let v = log_of c.args.seen.now in
    let w = log_of c.exchange-found.new.seen in
    bind_ends v w c.args.i c.args.tunnel c.args.peer (won_ends v w (Bind c.args.i 0 c.args.tunnel c.args.peer) c.args.i c.exchange-found.result 0 c.if-found-eq0.true c.exchange-found.ensures.ends)
