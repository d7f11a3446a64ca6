use Rattle.std.proofs.Common.{refl, sym, ap}
use Rattle.tunnel_core.specs.Cores.{tunnel_of}
use Rattle.tunnel_table.proofs.Made.{put_same}
use Rattle.tunnel_table.proofs.table.look_at.Goals as goal

pub returns-in-Some : goal.returns-in-Some
returns-in-Some c =
    put_same c.args.table.now.entries _ c.args.id c.look_again.new.self refl c.requires c.in-Some.core.now (sym c.in-Some.ensures.value) (ap tunnel_of c.look_again.ensures)
