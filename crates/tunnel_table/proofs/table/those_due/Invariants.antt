use Rattle.std.proofs.Common.{take}
use Rattle.tunnel_timers.specs.Due.{IsEarly, LeavesOut}
use Rattle.tunnel_table.specs.Tunnels.{tunnels_of}
use Rattle.tunnel_table.proofs.table.those_due.Given as goal

abbrev pub invariant-loop-id : goal.invariant-loop-id
invariant-loop-id l = LeavesOut (IsEarly (tunnels_of l.table.entries) l.moment) (take l.id-index l.ids) l.due
