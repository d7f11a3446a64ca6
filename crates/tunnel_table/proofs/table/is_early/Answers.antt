use Rattle.std.proofs.Common.{sym}
use Rattle.tunnel_table.proofs.Waiting.{early_at}
use Rattle.tunnel_table.proofs.table.is_early.Goals as goal

pub returns-in-Some : goal.returns-in-Some
returns-in-Some c early = early_at c.args.table.now.entries c.args.moment c.due.result c.args.id c.in-Some.core.now (sym c.in-Some.ensures) c.due.ensures early
