use Rattle.std.proofs.Common.{◌≡◌}
use Rattle.tunnel_table.specs.Tunnels.{tunnels_of}
use Rattle.tunnel_table.proofs.table.look_at_all.Given as goal

abbrev pub invariant-loop-id : goal.invariant-loop-id
invariant-loop-id l = tunnels_of l.table.entries ≡ tunnels_of l.fn.table.entries
