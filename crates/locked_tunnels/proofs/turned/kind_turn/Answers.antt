use Rattle.session_cells.specs.Tokens.{log_of}
use Rattle.session_cells.proofs.Prefixes.{prefix_self}
use Rattle.locked_tunnels.proofs.turned.kind_turn.Goals as goal

pub returns-in_err-outputs-clause-later : goal.returns-in_err-outputs-clause-later
returns-in_err-outputs-clause-later g c = (c.requires.of, prefix_self (log_of c.args.seen.now))
