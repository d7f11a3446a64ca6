use Rattle.std.proofs.Common.{◌≡◌}
use Rattle.session_cells.specs.Tokens.{log_of, IsOf}
use Rattle.session_workers.specs.Opening.{AreEntered}
use Rattle.session_workers.proofs.passes.keep_all.Given as goal

abbrev pub invariant-loop-tunnel : goal.invariant-loop-tunnel
invariant-loop-tunnel g l = (l.locked.cells ≡ l.fn.locked.cells) × IsOf l.locked.cells l.seen × AreEntered l.yielded (log_of l.seen)
