use Rattle.std.proofs.Common.{ap}
use Rattle.tunnel_table.specs.Tunnels.{tunnels_of}
use Rattle.tunnel_table.proofs.Waiting.{none_due}
use Rattle.tunnel_table.proofs.table.TunnelTable.new.Goals as goal

pub invariant_of-result : goal.invariant_of-result
invariant_of-result c = (c.new-2.ensures (tunnels_of c.new.result.entries) (ap tunnels_of c.new.ensures.entries), none_due _ c.new.result.entries c.new.ensures.entries)
